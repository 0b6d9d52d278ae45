-- What the runs hold, between calls and after finish, is no more than the finished table takes; and what start asked for.
use Prim.Native.Nat.{ℕ, ◌+◌, ◌*◌, ◌/◌, ◌≤◌, min}
use mathlib.Core.Path.{◌≡◌, refl, ap}
use mathlib.Core.List.{List, [], ◌∷◌, ◌++◌, map}
use mathlib.Core.Bool.{true}
use mathlib.Core.Option.{Option, none, some}
use native.Mathlib.Nat.{le_refl}
use native.Mathlib.Omega.{arith}
use lib.Dec.{leb}
use lib.ListN.{length, length-append, length-map}
use borrow.Author.Tests.{leb-true}
use Rattle.codec.specs.Bytes.{common}
use Rattle.codec.proofs.Prelude.{both, is_true}
use Rattle.keys.specs.Order.{below}
use Rattle.keys.proofs.StartLaws.{above_fresh}
use Rattle.blocks.specs.Block.{Pair, packed}
use Rattle.blocks.specs.Count.{BlockCount, count_of, no_entries, count_entry, count_size}
use Rattle.codec.specs.Limits.{within}
use Rattle.blocks.specs.Formed.{data_block, entry_fits, all, rises}
use Rattle.blocks.proofs.CountLaws.{count_none, entry_restarts, count_zero, Fresh, packed_fours}
use Rattle.filters.specs.Filter.{hash}
use Rattle.filters.specs.FilterBlock.{Filters, no_filters, wait, filters_up_to, last_filter}
use Rattle.filters.specs.FilterCount.{filter_count_of, count_last, filter_block_size}
use Rattle.filters.proofs.FilterBlockLaws.{starts_length}
use Rattle.filters.proofs.FilterCountLaws.{count_up_to_lem, count_last_lem, Kept, up_to_kept, last_kept}
use Rattle.table.specs.Checked.{pass}
use Rattle.table.specs.Options.{Options, index_interval, options_fit, empty_size, table_limit, Addition}
use Rattle.table.specs.Table.{Edge}
use Rattle.table.specs.Build.{Chunk, Building, pair_of, written, end_of, index_pairs, filters_of, begin, last_key, close_last, finish}
use Rattle.table.specs.Runs.{Runs, filters_now, entries_of, restarts_in, held, between, finished, FitsRoom, room_of, start_of}
use Rattle.table.specs.Counts.{Counts, counts_of, count_close, end_size, finished_size}
use Rattle.table.specs.Sizes.{runs_suffice}
use Rattle.table.proofs.CheckedLaws.{asking, ask_pass}
use Rattle.table.proofs.FrameLaws.{framed_length}
use Rattle.table.proofs.StepLaws.{last_none, last_some, empty_most, empty_size_lem}
use Rattle.table.proofs.PlainLaws.{all_of}
use Rattle.table.proofs.CheckLaws.{edge, Good}
use Rattle.table.proofs.AcceptLaws.{Inv, inv_begin, within_parts, option_parts, accepted, begin_is}
use Rattle.table.proofs.CountsLaws.{chunk_size, counts_close, counts_last, size_finished_lem, no_open, last_filters_lem}

-- ---- each entry takes 4 bytes at least

key_nine : (p : Pair) → (entry_fits data_block) p ≡ true → 9 ≤ length p.key
unfolding entry_fits
key_nine p h = (within_parts 9 1032 (length p.key) (both (within 9 1032 (length p.key)) (leb (length p.value) 32768) h).0).0

rising_fresh : (p : Pair) (ps : List Pair) → all (entry_fits data_block) ps ≡ true → rises below (p ∷ ps) ≡ true → Fresh p.key ps
unfolding all rises
rising_fresh p [] fit up = tt
rising_fresh p (q ∷ ps) fit up =
    let (f, g) = both ((entry_fits data_block) q) (all (entry_fits data_block) ps) fit in
    let (u, v) = both (below p.key q.key) (rises below (q ∷ ps)) up in
    let l = key_nine q f in
    (above_fresh p.key q.key (omega arith) u, rising_fresh q ps g v)

all_fresh : (ps : List Pair) → all (entry_fits data_block) ps ≡ true → rises below ps ≡ true → Fresh [] ps
unfolding all common
all_fresh [] fit up = tt
all_fresh (p ∷ ps) fit up =
    let (f, g) = both ((entry_fits data_block) p) (all (entry_fits data_block) ps) fit in
    let l = key_nine p f in
    (omega arith, rising_fresh p ps g up)

module _ (o : Options) where
  additions_fours : (xs : List Addition) → all (entry_fits data_block) (map pair_of xs) ≡ true → rises below (map pair_of xs) ≡ true
      → 4 * length xs ≤ (count_of o.interval (map pair_of xs)).bytes
  unfolding count_of
  additions_fours xs fit up =
      omega (arith, length-map xs pair_of, packed_fours o.interval o.interval [] (map pair_of xs) (all_fresh (map pair_of xs) fit up))

  written_fours : (before : Option Edge) (cs : List Chunk) → Good before cs → 4 * length (all_of cs) ≤ length (written o cs)
  unfolding written all_of count_size
  written_fours before [] g = omega arith
  written_fours before (c ∷ cs) g =
      let here = additions_fours c.additions g.0.fit g.0.rising in
      let size = chunk_size o c.additions in
      let more = written_fours (some (edge c)) cs g.1 in
      simp (length-append, framed_length) (omega arith)

  -- no more hashes wait than there are additions
  waiting_most : (at : ℕ) (f : Filters) (cs : List Chunk) → length (filters_of o at f cs).waiting ≤ length f.waiting + length (all_of cs)
  unfolding filters_of all_of filter_count_of wait
  waiting_most at f [] = omega arith
  waiting_most at f (c ∷ cs) =
      let hs = map (λ (a : Addition). hash a.word) c.additions in
      let end = end_of o at c in
      let kept : Kept (filter_count_of o.filtering (wait hs f)) (filter_count_of o.filtering (filters_up_to end (wait hs f))) =
      rw (count_up_to_lem o.filtering end (wait hs f)) (up_to_kept o.filtering end (filter_count_of o.filtering (wait hs f))) in
      let more = waiting_most end (filters_up_to end (wait hs f)) cs in
      let l = length-map c.additions (λ (a : Addition). hash a.word) in
      omega (arith, kept.waiting, length-append f.waiting hs, length-append c.additions (all_of cs))

  waiting_fours : (b : Building) (done : List Addition) → Inv b done
      → (let c = counts_of o b in 4 * c.filters.waiting ≤ c.written + c.open_block.bytes)
  unfolding counts_of filter_count_of filters_now wait no_filters
  waiting_fours b done i =
      let xs = b.open_block in
      let most = waiting_most 0 no_filters b.closed in
      let closed = written_fours none b.closed i.closed_good in
      let pending = additions_fours xs i.is_open.fit i.is_open.rising in
      let l = length-map xs (λ (a : Addition). hash a.word) in
      simp length-append (omega arith)

  -- ---- the last block closed keeps all that was there

  record Keeps (c d : Counts) : Type 0 where
    block : c.written + c.open_block.bytes + 4 * c.open_block.restarts ≤ d.written
    index : c.index.bytes ≤ d.index.bytes
    index_restarts : c.index.restarts ≤ d.index.restarts
    filters : Kept c.filters d.filters

  close_keeps : (key : List ℕ) (c : Counts) → Keeps c (count_close o key c)
  unfolding count_close count_size
  close_keeps key c =
      record {
        block = omega arith;
        index = unfold count_entry in omega arith;
        index_restarts = (entry_restarts (index_interval o) c.index key _).0;
        filters = up_to_kept o.filtering _ c.filters;
      }

  same_keeps : (c : Counts) → c.open_block ≡ no_entries o.interval → Keeps c c
  unfolding no_entries
  same_keeps c e = omega (arith, ap (λ (x : BlockCount). x.bytes) e, ap (λ (x : BlockCount). x.restarts) e)

  last_keeps : (b : Building) → Keeps (counts_of o b) (counts_of o (close_last b))
  last_keeps b = go b.open_block refl
    where
      go : (xs : List Addition) → b.open_block ≡ xs → Keeps (counts_of o b) (counts_of o (close_last b))
      go [] e = rw (last_none b e) (same_keeps (counts_of o b) (unfold counts_of in rw e (count_none o.interval)))
      go (x ∷ xs) e = rw (last_some b x xs e, counts_close o (last_key b.open_block) b) (close_keeps (last_key b.open_block) (counts_of o b))

  -- ---- what the finished table holds

  finished_most : (b : Building)
      → (let d = counts_of o (close_last b) in
      let k = count_last o.filtering d.filters in
      d.written + (k.bytes + 4 * k.made) + (d.index.bytes + 4 * d.index.restarts) ≤ length (finish o b))
  finished_most b = rw (size_finished_lem o b) (unfold finished_size end_size filter_block_size count_size in rw (← counts_last o b) (omega arith))

  module _ (room : ℕ) where
    -- the lengths of what the runs hold are counts
    held_fits : (out : List ℕ) (b : Building) (f : Filters) → length out ≤ room
        → (let x = count_of (index_interval o) (index_pairs o 0 b.closed) in x.bytes + 4 * x.restarts ≤ room)
        → 4 * (count_of o.interval (map pair_of b.open_block)).restarts ≤ room
        → (let k = filter_count_of o.filtering f in (k.bytes + 4 * k.made ≤ room) × (4 * k.waiting ≤ room))
        → FitsRoom room (held o out b f)
    unfolding held entries_of restarts_in count_of filter_count_of
    held_fits out b f l x r k = let n = starts_length o.filtering 0 f.made in omega arith

    module _ (b : Building) (done : List Addition) (i : Inv b done) (small : length (finish o b) ≤ room) where
      between_fits : FitsRoom room (between o b)
      unfolding between entries_of counts_of count_of
      between_fits =
          let most = finished_most b in
          let keeps = last_keeps b in
          let last = (last_kept o.filtering (counts_of o (close_last b)).filters).0 in
          let hashes = waiting_fours b done i in
          held_fits (written o b.closed ++ packed o.interval o.interval [] (map pair_of b.open_block)) b (filters_now o b)
          (simp length-append (omega arith)) (omega arith) (omega arith) (omega arith)

      finished_fits : FitsRoom room (finished o b)
      unfolding finished counts_of
      finished_fits =
          let f = filters_of o 0 no_filters (close_last b).closed in
          let most = rw (last_filters_lem o b) at (finished_most b) in
          let last = (last_kept o.filtering (filter_count_of o.filtering f)).1 in
          let none = (count_zero o.interval (map pair_of (close_last b).open_block)).1 (rw (no_open o b)) in
          held_fits (finish o b) (close_last b) (last_filter f) small (omega arith) (omega arith) (rw (count_last_lem o.filtering f) (omega arith))

pub runs_suffice_lem : runs_suffice
runs_suffice_lem o room more b fits least accepts =
    let start = accepted o room room (option_parts o (is_true (options_fit o) fits)).size (le_refl room) begin [] more b inv_begin (rw (begin_is, empty_size_lem) least) accepts in
    (between_fits o room b more start.0 start.1, finished_fits o room b more start.0 start.1)

-- ---- what start asked for

-- runs that are long enough for a room
pub record Rooms (room : ℕ) (r : Runs) : Type 0 where
  pub limit : room ≤ table_limit
  pub out : room ≤ length r.out
  pub index : room ≤ length r.index
  pub filters : room ≤ length r.filters
  pub restarts : room / 4 ≤ length r.restarts
  pub index_restarts : room / 4 ≤ length r.index_restarts
  pub offsets : room / 4 ≤ length r.offsets
  pub hashes : room / 4 ≤ length r.hashes

pub record Began (o : Options) (r : Runs) : Type 0 where
  pub fits : options_fit o ≡ true
  pub least : empty_size o.filtering ≤ room_of (length r.out)
  pub rooms : Rooms (room_of (length r.out)) r

pub began : (o : Options) (r : Runs) → start_of o r ≡ pass tt → Began o r
unfolding start_of room_of
began o r e =
    asking 1 _ _ e λ f e.
    asking 2 _ _ e λ x e.
    asking 2 _ _ e λ y e.
    asking 2 _ _ e λ z e.
    let n = min table_limit (length r.out) in
    let a = leb-true (empty_size o.filtering) (length r.out) (is_true _ x) in
    let u = both (leb n (length r.index)) _ (is_true _ y) in
    let v = both (leb (n / 4) (length r.restarts)) _ (is_true _ z) in
    let w = both (leb (n / 4) (length r.offsets)) _ (is_true _ (ask_pass 2 _ e)) in
    record {
      fits = is_true _ f;
      least = omega (arith, a, empty_most o.filtering);
      rooms =
          record {
            limit = omega arith;
            out = omega arith;
            index = leb-true _ _ u.0;
            filters = leb-true _ _ u.1;
            restarts = leb-true _ _ v.0;
            index_restarts = leb-true _ _ v.1;
            offsets = leb-true _ _ w.0;
            hashes = leb-true _ _ w.1;
          };
    }

-- Searching a block: what a search says entry by entry, and restarts that skip only entries that do not matter to it.
use Prim.Native.Nat.{ℕ, suc, ◌+◌, ◌≤◌, ◌<◌}
use mathlib.Core.Path.{◌≡◌, refl, sym, ap, subst, ◌∙◌}
use mathlib.Core.List.Memᴰ
use mathlib.Core.List.{List, [], ◌∷◌, ◌++◌}
use mathlib.Core.Bool.{Bool, true, false, not}
use mathlib.Core.Option.{Option, none, some, some_inj, none-ne-some}
use native.Mathlib.Omega.{arith}
use lib.Dec.{T, eqb, eqb→eq, leb}
use lib.ListN.{length, take, drop}
use borrow.Author.Tests.{eq-eqb, ne_eqb}
use Rattle.codec.specs.Bytes.{numbers}
use Rattle.codec.specs.Maybe.{first}
use Rattle.codec.proofs.Lists.{Pairs, all_mem, first_yes, first_no}
use Rattle.codec.proofs.MaybeLaws.{getting, giving, gets, gives}
use Rattle.codec.proofs.Prelude.{and_r, is_true, true_is}
use Rattle.keys.specs.Order.{Point, point_of, by_point, is_less}
use Rattle.keys.proofs.OrderLaws.{◌≺◌}
use Rattle.std.specs.Prelude.{None, Err}
use Rattle.codec.specs.Answers.{given}
use Rattle.block_reader.specs.declared.block.BlockError.TheVariants.{NoPlace, Bad}
use Rattle.block_reader.specs.declared.block.EntryRead.{EntryRead}
use Rattle.block_reader.specs.declared.block.Which.{Which}
use Rattle.block_reader.specs.declared.block.Which.TheVariants as WhichCase
use Rattle.blocks.specs.Block.{Pair, Entry, pairs_of, restarts_stand, first_is_zero, Block}
use Rattle.blocks.specs.Formed.{all}
use Rattle.blocks.specs.Search.{readable, reaches, seek_in, first_in, in_order, any_order}
use Rattle.block_reader.specs.Said.{pick, place_in, next_in, at_in, Found, found_answer, buffer_left, Said}
use Rattle.block_reader.specs.Steps.{rows_of, Laid, restart_at, entries_from, read_from, Taken, Told, From, BelowAt}
use Rattle.blocks.proofs.ReadLaws.{entry_start, entry_ends, Reads, reads_of, reads_back, reads_count, StartsBefore, starts_rise, restart_reads, skip_entries}
use Rattle.blocks.proofs.FormedLaws.{rises_pairs}
use Rattle.block_reader.proofs.LayoutLaws.{restarts_have, numbers_length, no_block, block_is, entries_size}
use Rattle.block_reader.proofs.WalkLaws.{read_next, taken_first, told_by}

-- ---- a search, entry by entry

pub place_here : (which : Which) (at : ℕ) (e : Entry) (es : List Entry) → e.start ≡ at → place_in which at (e ∷ es) ≡ some (pick which e es)
unfolding place_in
place_here which at e es h = rw (eq-eqb e.start at h, place_in)

pub place_past : (which : Which) (at : ℕ) (e : Entry) (es : List Entry) → (e.start ≡ at → ⊥) → place_in which at (e ∷ es) ≡ place_in which at es
unfolding place_in
place_past which at e es h = rw (ne_eqb e.start at h, place_in)

pub seek_here : (p : Point) (e : Entry) (es : List Entry) → is_less (by_point (point_of e.key) p) ≡ false → seek_in p (e ∷ es) ≡ some (some e)
unfolding seek_in reaches
seek_here p e es h = ap some (first_yes (reaches p) e es (rw h tt))

passed : (p : Point) (e : Entry) → is_less (by_point (point_of e.key) p) ≡ true → T (not (reaches p e))
unfolding reaches
passed p e h = rw h tt

pub seek_past : (p : Point) (e : Entry) (es : List Entry) → is_less (by_point (point_of e.key) p) ≡ true → seek_in p (e ∷ es) ≡ seek_in p es
unfolding seek_in
seek_past p e es h = ap some (first_no (reaches p) e es (passed p e h))

pub seek_end : (p : Point) → seek_in p [] ≡ some none
unfolding seek_in first
seek_end p = refl

-- ---- a block that can be read, by its layout

abbrev short : Pair → Bool
short p = leb (length p.key) 1032

record Readable (s : List ℕ) (end count : ℕ) (es : List Entry) : Type 0 where
  reads : Reads (take end s) 0 [] es
  stand : T (first_is_zero (numbers count (drop end s)) es)
  fits : T (all short (pairs_of es))

readable_read : (s : List ℕ) {end count : ℕ} → Laid s end count → {es : List Entry} → readable s ≡ some es → Readable s end count es
unfolding readable
readable_read s {end} {count} l {es} p =
    getting _ _ p λ b read p.
    giving _ _ p λ fits p.
    getting _ _ (sym (block_is s l) ∙ read) λ fs from q.
    giving _ _ q λ stand q.
    let same = some_inj.0 p in
    let e : fs ≡ es = ap (λ (c : Block). c.entries) (some_inj.0 q) ∙ same in
    record { reads = rw e at (reads_of (suc end) (take end s) 0 [] fs from); stand = rw e at stand; fits = rw same at fits }

-- without a layout nothing can be read
pub never_read : (s : List ℕ) → given (rows_of s) ≡ None → {es : List Entry} → readable s ≡ some es → ⊥
unfolding readable
never_read s e read = getting _ _ read λ b whole p. none-ne-some b (sym (no_block s e) ∙ whole)

pub said_bad : (s : List ℕ) (says : List Entry → Option (Option Entry)) (ordered : List Entry → Bool) (k : List ℕ) → given (rows_of s) ≡ None → Said s says ordered k (Err Bad) k
said_bad s says ordered k e = record { answer = λ es read o. absurd (never_read s e read); buffer = λ es read o. absurd (never_read s e read); inside = refl }

-- ---- reading from a place on

read_from_lem : {d : List ℕ} {r : ℕ} {before : List ℕ} {es : List Entry} → r ≤ length d → Reads d r before es → T (all short (pairs_of es)) → read_from d r before ≡ some es
unfolding read_from entries_from
read_from_lem {d} {r} w reads fits = gets _ _ (reads_back (suc (length d)) (omega (arith, reads_count w reads)) reads) (gives _ _ fits refl)

reads_read : {d : List ℕ} {r : ℕ} {before : List ℕ} {es : List Entry} → read_from d r before ≡ some es → Reads d r before es
unfolding read_from entries_from
reads_read {d} {r} {before} p =
    getting _ _ p λ es read p.
    giving _ _ p λ fits p.
    subst (Reads d r before) (some_inj.0 p) (reads_of (suc (length d)) d r before es read)

-- no entry from a place on starts at another
place_none : {d : List ℕ} {p : ℕ} {before : List ℕ} {es : List Entry} (which : Which) (at : ℕ) → Reads d p before es → p ≤ length d → ((x : ℕ) → p ≤ x → x < length d → x ≡ at → ⊥) → place_in which at es ≡ none
unfolding place_in
place_none which at (Reads.done e) w h = refl
place_none {d} {p} {before} which at (Reads.more {e = e} {es = es} n read r) w h =
    let here = entry_start p before (drop p d) read in
    let ends = entry_ends p before d w read in
    place_past which at e es (λ g. h p (omega arith) (omega arith) (sym here ∙ g)) ∙ place_none which at r ends.1 (λ x a b. h x (omega arith) b)

pub no_place : (d : List ℕ) (p : ℕ) (before : List ℕ) (which : Which) (at : ℕ) → p ≤ length d → at < p → (es : List Entry) → read_from d p before ≡ some es → place_in which at es ≡ none
no_place d p before which at w h es read = place_none which at (reads_read read) w (λ x a b e. omega arith)

-- ---- a search from a restart

-- the entries from a restart on, read after no key
record Suffix (d : List ℕ) (r : ℕ) (es : List Entry) : Type 0 where
  before : List Entry
  here : Entry
  after : List Entry
  whole : es ≡ before ++ (here ∷ after)
  start : here.start ≡ r
  reads : read_from d r [] ≡ some (here ∷ after)

all_after : (bs : List Entry) (es : List Entry) → T (all short (pairs_of (bs ++ es))) → T (all short (pairs_of es))
unfolding all
all_after [] es t = t
all_after (b ∷ bs) es t = all_after bs es (and_r (leb (length b.key) 1032) _ t)

-- a block with a second restart has entries, and all of them stand
stand_all : (rs : List ℕ) (es : List Entry) → 1 < length rs → T (first_is_zero rs es) → T (restarts_stand rs es)
unfolding first_is_zero
stand_all [] es h t = absurd (omega arith)
stand_all (r ∷ rs) [] h t = absurd (omega (arith, eqb→eq (length rs) 0 (and_r (eqb r 0) _ t)))
stand_all (r ∷ rs) (e ∷ es) h t = and_r (eqb r 0) _ t

module _ (s : List ℕ) {end count : ℕ} (l : Laid s end count) where
  abbrev d : List ℕ
  d = take end s

  -- the entries of a block that can be read, from the first on
  pub read_whole : {es : List Entry} → readable s ≡ some es → read_from d 0 [] ≡ some es
  read_whole read = let w = readable_read s l read in read_from_lem (omega arith) w.reads w.fits

  pub from_start : (says : List Entry → Option (Option Entry)) (ordered : List Entry → Bool) → From s d says ordered 0
  from_start says ordered =
      record {
        within = omega arith;
        skips = λ es read o. record { rest = es; reads = read_whole read; same = refl };
      }

  module _ (j : ℕ) (later : 1 ≤ j) (is : j < count) {r : ℕ} (restart : r ≡ restart_at s end j) (within : r ≤ length d) where
    suffix : {es : List Entry} → Readable s end count es → Suffix d r es
    suffix {es} w =
        let rs = numbers count (drop end s) in
        let f = restart_reads d rs es w.reads (stand_all rs es (omega (arith, numbers_length count (drop end s))) w.stand) r (rw restart (restarts_have s end count j is)) in
        let a = f.entry_at in
        record {
          before = a.before;
          here = a.here;
          after = a.after;
          whole = a.whole;
          start = a.start;
          reads = read_from_lem within f.rest (all_after a.before (a.here ∷ a.after) (rw a.whole at w.fits));
        }

    -- not above a place: no entry before it starts there
    pub from_before : (which : Which) (at : ℕ) → r ≤ at → From s d (place_in which at) any_order r
    from_before which at h =
        record {
          within = within;
          skips = λ es read o.
              let w = readable_read s l read in
              let x = suffix w in
              record { rest = x.here ∷ x.after; reads = x.reads; same = ap (place_in which at) x.whole ∙ skip at x.before x.here x.after (omega (arith, x.start)) (rw x.whole at (starts_rise (omega arith) w.reads)) };
        }
      where
        skip : (at : ℕ) (bs : List Entry) (e : Entry) (cs : List Entry) → e.start ≤ at → Pairs StartsBefore (bs ++ (e ∷ cs)) → place_in which at (bs ++ (e ∷ cs)) ≡ place_in which at (e ∷ cs)
        skip at [] e cs h p = refl
        skip at (b ∷ bs) e cs h (Pairs.cons q qs) =
            let before : b.start < e.start = all_mem q (Memᴰ.append_right bs (Memᴰ.head refl)) in
            place_past which at b (bs ++ (e ∷ cs)) (λ g. omega arith) ∙ skip at bs e cs h qs

  -- below a target: so are all entries before it
  pub from_below : (j : ℕ) → 1 ≤ j → j < count → (p : Point) {r : ℕ} → r ≡ restart_at s end j → BelowAt d p r → From s d (seek_in p) in_order r
  unfolding in_order seek_in
  from_below j later is p {r} at b =
      record {
        within = omega (arith, b.inside);
        skips = λ es read o.
            let x = suffix j later is at (omega (arith, b.inside)) (readable_read s l read) in
            let n = read_next d r [] x.reads b.inside in
            let e : b.here ≡ x.here = some_inj.0 (sym b.reads ∙ n.reads) ∙ sym (head_is n.is) in
            let lower : point_of x.here.key ≺ p = record { is = true_is (rw e at b.below) } in
            record {
              rest = x.here ∷ x.after;
              reads = x.reads;
              same = ap some (ap (first (reaches p)) x.whole ∙ skip_entries (reaches p) p (λ y h. passed p y (is_true _ h.is)) x.before x.here x.after (rw x.whole at (rises_pairs es (true_is o))) lower);
            };
      }
    where
      head_is : {x y : Entry} {xs ys : List Entry} → x ∷ xs ≡ y ∷ ys → x ≡ y
      head_is e = cc

  -- past the end there is no place
  pub no_place_end : (which : Which) (at : ℕ) (k : List ℕ) → end ≤ at → Said s (place_in which at) any_order k (Err NoPlace) k
  unfolding found_answer buffer_left
  no_place_end which at k h =
      let none_there : (es : List Entry) → readable s ≡ some es → place_in which at es ≡ none = λ es read. place_none which at (readable_read s l read).reads (omega arith) (λ x a b e. omega (arith, entries_size s l)) in
      record { answer = λ es read o. rw (none_there es read); buffer = λ es read o. rw (none_there es read); inside = refl }

-- ---- the entry after one that was taken

pub told_next : {d : List ℕ} {at : ℕ} {before : List ℕ} {e : EntryRead} {k : List ℕ} (t : Taken d at before e k) {key : List ℕ} {r : Found} {key' : List ℕ}
    → Told d (e.value_at + e.value_len) k first_in key r key' → Told d at before (next_in at) key r key'
unfolding pick first_in
told_next {d} {at} {before} t w =
    told_by
    (λ es read.
    let f = taken_first t es read in
    record { rest = f.rest; reads = f.onward; same = ap (next_in at) f.is ∙ place_here WhichCase.After at t.here f.rest (entry_start at before (drop at d) t.reads) })
    w

-- the entry at the place itself
pub told_here : (d : List ℕ) (at : ℕ) (before : List ℕ) {key : List ℕ} {r : Found} {key' : List ℕ} → at < length d → Told d at before first_in key r key' → Told d at before (at_in at) key r key'
unfolding pick first_in
told_here d at before inside w =
    told_by
    (λ es read.
    let x = read_next d at before read inside in
    record { rest = es; reads = read; same = ap (at_in at) x.is ∙ place_here WhichCase.Here at x.here x.rest (entry_start at before (drop at d) x.reads) ∙ ap first_in (sym x.is) })
    w

-- What a state that counts a table tells of the runs, and what closing a block leaves in them.
use Prim.Native.Nat.{ℕ, ◌+◌, ◌-◌, ◌/◌, ◌^◌, ◌≤◌, ◌<◌}
use mathlib.Core.Path.{◌≡◌, refl, sym, ap, ap₂, ◌∙◌}
use mathlib.Core.List.{List, [], ◌∷◌, ◌++◌, map, append-nil}
use mathlib.Core.Bool.{Bool, true, false}
use native.Mathlib.Nat.{zero-add}
use native.Mathlib.Omega.{arith}
use lib.ListN.{length, take, drop, length-append, length-replicate}
use borrow.Author.Tests.{le-leb}
use Rattle.codec.specs.Bytes.{part}
use Rattle.checksum.specs.Checksum.{trailer}
use Rattle.codec.specs.Put.{room, put}
use Rattle.codec.specs.Varint.{handle_bytes}
use Rattle.codec.proofs.PutLaws.{put_put, put_start, put_length}
use Rattle.checksum.proofs.TrailerLaws.{trailer_length}
use Rattle.codec.proofs.VarintLaws.{handle_long}
use Rattle.block_builder.specs.declared.block_builder.BlockBuilder.{BlockBuilder}
use Rattle.std.specs.Prelude.{Result, Ok}
use Rattle.codec.specs.declared.put.NoRoom.{NoRoom}
use Rattle.blocks.specs.Block.{Pair, packed, restarts_of}
use Rattle.blocks.specs.Count.{count_size}
use Rattle.block_builder.specs.Builder as Blocks
use Rattle.block_builder.specs.Builder.{new_builder, builder_after, builder_with, fit_answer, AddedIs, Counting}
use Rattle.block_builder.proofs.BuilderLaws.{stands_more, stands_finish, added_kept}
use Rattle.filters.specs.FilterBlock.{Filtering, Filters, no_filters, filters_up_to, made_bytes, starts}
use Rattle.filter_block.specs.declared.filter_block.Made.{Made}
use Rattle.filters.specs.FilterCount.{FilterCount, filter_count_of}
use Rattle.bloom.specs.Choice.{choice_of}
use Rattle.filter_block.specs.Make.{groups_up_to, room_for, MadeFilters}
use Rattle.filters.proofs.FilterBlockLaws.{made_append, starts_length}
use Rattle.table.specs.Options.{Options, index_interval}
use Rattle.table.specs.Build.{Chunk, Building, pair_of, framed, chunk_bytes, written, end_of, index_pairs, filters_of, close}
use Rattle.table.specs.Runs.{Runs, filters_now, entries_of, restarts_in, held, between, overlay, overlaid, FitsRoom}
use Rattle.table.specs.Counts.{Counts, counts_of, count_close}
use Rattle.table.proofs.FrameLaws.{framed_length}
use Rattle.table.proofs.StepLaws.{written_append, index_append, filters_append}
use Rattle.table.proofs.SufficeLaws.{Rooms}
use Rattle.table.proofs.CountsLaws.{wait_none, handle_length, chunk_size, counts_close}
use Rattle.builder.specs.declared.table_builder.Builder.{Builder}
use Rattle.builder.specs.State.{options_of, counts_in}
use Rattle.builder.specs.Steps.{Small, Whole, open_size, ends_at, close_in, closed_state}
use Rattle.table_write.specs.Writes.{size_of, tailed_out, sealed_out, ClosedOut, ClosedIndex, MoreFilters}
use Rattle.table_write.proofs.EntryLaws.{counted_long, fits_addable, part_put}
use Rattle.builder.proofs.SizeLaws.{size_exact, closed_counts, index_countable}
use Rattle.table.proofs.OverlayLaws.{overlay_none, overlay_front, overlay_of, overlay_long, overlay_put, overlay_first, overlay_same, each, all_seven}
use Rattle.builder.proofs.GroupLaws.{filters_until, waits_until, starts_append}

-- ---- a state that counts a table being built

pub record Counted (o : Options) (b : Building) (s : Builder) : Type 0 where
  pub options : options_of s.options ≡ o
  pub counts : counts_in s ≡ counts_of o b
  pub interval : s.pending.interval ≡ o.interval
  pub index_interval : s.indexed.interval ≡ index_interval o
  pub whole : Whole s

-- the lengths of what the runs hold are the state's numbers
pub record Lens (d : Runs) (s : Builder) : Type 0 where
  pub out : length d.out ≡ s.written + s.pending.bytes
  pub index : length d.index ≡ s.indexed.bytes
  pub filters : length d.filters ≡ s.filtered
  pub restarts : length d.restarts ≡ s.pending.restarts
  pub index_restarts : length d.index_restarts ≡ s.indexed.restarts
  pub offsets : length d.offsets ≡ s.made
  pub hashes : length d.hashes ≡ s.waiting

-- a block that counts its entries stands behind some bytes of runs that hold it
stands_in : {i : ℕ} {ps : List Pair} {b : BlockBuilder} → Counting i ps b → (w : List ℕ) {at : ℕ} → at ≡ length w → {e q : List ℕ} (r r' : List ℕ) → e ≡ overlay (w ++ packed i i [] ps) r
    → q ≡ overlay (restarts_of i i [] 0 ps) r' → Blocks.Stands i ps b at e q
stands_in {i} {ps} c w n {e} {q} r r' p m =
    let l = counted_long c in
    record {
      counting = c;
      entries = rw (n, l.0) (overlay_first w (packed i i [] ps) e r p).1;
      marks = rw l.1 (overlay_front (restarts_of i i [] 0 ps) q r' m);
    }

module _ {o : Options} {b : Building} {s : Builder} (h : Counted o b s) where
  abbrev ps : List Pair
  ps = map pair_of b.open_block

  abbrev is : List Pair
  is = index_pairs o 0 b.closed

  abbrev fs : Filters
  fs = filters_now o b

  pub counting : Counting o.interval ps s.pending
  counting = record { every = h.interval; counts = unfold counts_in counts_of in ap (λ (c : Counts). c.open_block) h.counts; whole = h.whole.pending }

  pub index_counting : Counting (index_interval o) is s.indexed
  index_counting = record { every = h.index_interval; counts = unfold counts_in counts_of in ap (λ (c : Counts). c.index) h.counts; whole = h.whole.indexed }

  pub written_is : s.written ≡ length (written o b.closed)
  unfolding counts_in counts_of
  written_is = ap (λ (c : Counts). c.written) h.counts

  pub filters_is : record { bytes = s.filtered; made = s.made; waiting = s.waiting } ≡ filter_count_of o.filtering fs
  unfolding counts_in counts_of
  filters_is = ap (λ (c : Counts). c.filters) h.counts

  pub open_size_lem : open_size s ≡ length (chunk_bytes o b.open_block)
  unfolding open_size
  open_size_lem = ap count_size counting.counts ∙ sym (chunk_size o b.open_block)

  pub filters_are : (s.filtered ≡ length (made_bytes o.filtering fs.made)) × (s.made ≡ length fs.made) × (s.waiting ≡ length fs.waiting)
  unfolding filter_count_of
  filters_are = (ap (λ (c : FilterCount). c.bytes) filters_is, ap (λ (c : FilterCount). c.made) filters_is, ap (λ (c : FilterCount). c.waiting) filters_is)

  pub lens : Lens (between o b) s
  unfolding between held entries_of restarts_in
  lens =
      let c = counted_long counting in
      let i = counted_long index_counting in
      let f = filters_are in
      record {
        out = simp length-append (omega (arith, written_is));
        index = sym i.0;
        filters = sym f.0;
        restarts = sym c.1;
        index_restarts = sym i.1;
        offsets = starts_length o.filtering 0 fs.made ∙ sym f.1;
        hashes = sym f.2;
      }

  -- the open block stands in runs that hold the table
  pub open_stands : {e q : List ℕ} (r r' : List ℕ) → e ≡ overlay (between o b).out r → q ≡ overlay (between o b).restarts r' → Blocks.Stands o.interval ps s.pending s.written e q
  unfolding between held entries_of restarts_in
  open_stands r r' p m = stands_in counting (written o b.closed) written_is r r' p m

  -- and so does the index
  pub index_stands : {e q : List ℕ} (r r' : List ℕ) → e ≡ overlay (between o b).index r → q ≡ overlay (between o b).index_restarts r' → Blocks.Stands (index_interval o) is s.indexed 0 e q
  unfolding between held entries_of restarts_in
  index_stands r r' p m = stands_in index_counting [] refl r r' p m

-- ---- the open block closed, or not: what that leaves in the runs

pub record ClosedRuns (closing : Bool) (s : Builder) (key : List ℕ) (r r' : Runs) : Type 0 where
  pub out : ClosedOut closing s.pending s.written r.out r'.out r.restarts
  pub index : ClosedIndex closing s.pending s.written s.indexed key r.index r'.index r.index_restarts r'.index_restarts
  pub filters : MoreFilters closing (choice_of s.options.filter) (ends_at s / 2048) s.filtered s.made r.filters r'.filters r.offsets r'.offsets (take s.waiting r.hashes)
  pub restarts : r'.restarts ≡ r.restarts
  pub hashes : r'.hashes ≡ r.hashes

pub closed_kept : {closing : Bool} {s : Builder} {key : List ℕ} {r r' : Runs} → ClosedRuns closing s key r r' → closing ≡ false → r' ≡ r
closed_kept g e =
    let x₀ = g.out.kept e in
    let x₁ = g.index.kept e in
    let x₂ = g.filters.kept e in
    let x₃ = g.restarts in
    let x₄ = g.hashes in
    λ i. record { out = x₀ i; index = x₁.0 i; filters = x₂.0 i; restarts = x₃ i; index_restarts = x₁.1 i; offsets = x₂.1 i; hashes = x₄ i }

-- the same filters, if it is closed at the end of another state
pub more_until : {more : Bool} {c : Filtering} {at n bytes made : ℕ} {f f' q q' hs : List ℕ} → (more ≡ true → at ≡ n) → MoreFilters more c (at / 2048) bytes made f f' q q' hs
    → MoreFilters more c (n / 2048) bytes made f f' q q' hs
more_until e g = record { said = g.said; done = λ t. rw (e t) at (g.done t); kept = g.kept }

pub ends_closed : (s : Builder) (key : List ℕ) → (closed_state s key).written ≡ ends_at s
unfolding closed_state close_in
ends_closed s key = refl

-- the key that the last block was indexed under
unfoldable pub index_key : Builder → List ℕ
index_key s = take s.indexed.len s.indexed.last

pub index_key_closed : (s : Builder) (key : List ℕ) → length key ≤ 1032 → length s.indexed.last ≡ 1032 → index_key (closed_state s key) ≡ key
unfolding index_key closed_state builder_after builder_with
index_key_closed s key k w = put_start s.indexed.last key (length key) refl (omega arith)

-- a block at the front of two runs
pub entry_overlay : {i : ℕ} {qs : List Pair} {b : BlockBuilder} {x y : List ℕ} (x₀ y₀ : List ℕ) → Blocks.Stands i qs b 0 x y → drop (0 + b.bytes) x ≡ drop (0 + b.bytes) x₀ → drop b.restarts y ≡ drop b.restarts y₀
    → (x ≡ overlay (packed i i [] qs) x₀) × (y ≡ overlay (restarts_of i i [] 0 qs) y₀)
unfolding part
entry_overlay {i} {qs} {b} {x} {y} x₀ y₀ s p q =
    let c = counted_long s.counting in (
      overlay_of (packed i i [] qs) x x₀ (rw c.0 at s.entries) (rw (zero-add b.bytes, c.0) at p),
      overlay_of (restarts_of i i [] 0 qs) y y₀ (rw c.1 at s.marks) (rw c.1 at q),
    )

pub made_room : (c : Filtering) (gs : List (List ℕ)) (bytes made : ℕ) (f q : List ℕ) → bytes + length (made_bytes c gs) ≤ length f → made + length (starts c bytes gs) ≤ length q
    → bytes + length (made_bytes c gs) ≤ 2 ^ 32 - 1 → room_for c bytes gs f q made ≡ true
unfolding room_for room
made_room c gs bytes made f q x y z =
    rw (le-leb (bytes + length (made_bytes c gs)) (length f) x, le-leb (made + length (starts c bytes gs)) (length q) y, le-leb (bytes + length (made_bytes c gs)) (2 ^ 32 - 1) z)

-- filters made behind those that stand in the runs
pub made_overlay : (c : Filtering) (ms gs : List (List ℕ)) {bytes made : ℕ} {e : Result Made NoRoom} {f f' q q' : List ℕ} (f₀ q₀ : List ℕ) → MadeFilters c gs bytes made e f f' q q'
    → bytes ≡ length (made_bytes c ms) → made ≡ length ms → f ≡ overlay (made_bytes c ms) f₀ → q ≡ overlay (starts c 0 ms) q₀
    → length (made_bytes c (ms ++ gs)) ≤ length f₀ → length (starts c 0 (ms ++ gs)) ≤ length q₀ → length (made_bytes c (ms ++ gs)) ≤ 2 ^ 32 - 1
    → (f' ≡ overlay (made_bytes c (ms ++ gs)) f₀) × (q' ≡ overlay (starts c 0 (ms ++ gs)) q₀)
made_overlay c ms gs {bytes} {made} {f = f} {q = q} f₀ q₀ x bi mi pf pq lf lq u =
    let mb = made_append c ms gs in
    let ob : starts c 0 (ms ++ gs) ≡ starts c 0 ms ++ starts c bytes gs =
    starts_append c 0 ms gs ∙ ap (λ (n : ℕ). starts c 0 ms ++ starts c n gs) (zero-add (length (made_bytes c ms)) ∙ sym bi) in
    let lm : length (made_bytes c ms ++ made_bytes c gs) ≤ length f₀ = rw mb at lf in
    let lo : length (starts c 0 ms ++ starts c bytes gs) ≤ length q₀ = rw ob at lq in
    let lu : length (made_bytes c ms ++ made_bytes c gs) ≤ 2 ^ 32 - 1 = rw mb at u in
    let nm = length-append (made_bytes c ms) (made_bytes c gs) in
    let no' = length-append (starts c 0 ms) (starts c bytes gs) in
    let sl = starts_length c 0 ms in
    let kf = overlay_long (made_bytes c ms) f f₀ pf (omega arith) in
    let kq = overlay_long (starts c 0 ms) q q₀ pq (omega arith) in
    let ok : room_for c bytes gs f q made ≡ true = made_room c gs bytes made f q (omega arith) (omega arith) (omega arith) in (
      x.filters ∙ rw ok (overlay_put (made_bytes c ms) (made_bytes c gs) f f₀ bytes bi pf lm ∙ ap (λ (z : List ℕ). overlay z f₀) (sym mb)),
      x.offsets ∙ rw ok (overlay_put (starts c 0 ms) (starts c bytes gs) q q₀ made (omega arith) pq lo ∙ ap (λ (z : List ℕ). overlay z q₀) (sym ob)),
    )

-- ---- a block closed

pub options_are : (s : Builder) (o : Options) → options_of s.options ≡ o → (s.options.interval ≡ o.interval) × (choice_of s.options.filter ≡ o.filtering)
unfolding options_of
options_are s o e = (ap (λ (x : Options). x.interval) e, ap (λ (x : Options). x.filtering) e)

module _ {o : Options} {b : Building} {s : Builder} (h : Counted o b s) (m : Small s) (key : List ℕ) (k : length key ≤ 1032) where
  pub closed_counted : Counted o (close key b) (closed_state s key)
  closed_counted =
      record {
        options = unfold closed_state in h.options;
        counts =
            closed_counts s m h.whole key k ∙ ap₂ (λ (x : Options) (c : Counts). count_close x key c) h.options h.counts ∙ sym (counts_close o key b);
        interval = unfold closed_state new_builder in (options_are s o h.options).0;
        index_interval = unfold closed_state builder_after builder_with in h.index_interval;
        whole =
            record {
              pending = unfold closed_state new_builder in length-replicate {A = ℕ} 1032 0;
              indexed = unfold closed_state builder_after builder_with in put_length s.indexed.last 0 key ∙ h.whole.indexed;
            };
      }

  abbrev d : Building
  d = close key b

  abbrev chunk : Chunk
  chunk = record { additions = b.open_block; key = key }

  size_open : size_of s.pending ≡ open_size s
  unfolding size_of
  size_open = size_exact s m refl

  -- the output
  out_is : (between o d).out ≡ written o b.closed ++ framed (chunk_bytes o b.open_block)
  unfolding between held close entries_of packed written
  out_is = append-nil _ ∙ written_append o b.closed (chunk ∷ []) ∙ ap (λ (x : List ℕ). written o b.closed ++ x) (append-nil (framed (chunk_bytes o b.open_block)))

  pub closed_out : (out rs : List ℕ) → out ≡ overlay (between o b).out out → rs ≡ overlay (between o b).restarts rs → length (between o d).out ≤ length out
      → sealed_out out s.written s.pending rs ≡ overlay (between o d).out out
  unfolding sealed_out framed
  closed_out out rs p q l =
      let i = o.interval in
      let w = written o b.closed in
      let e = chunk_bytes o b.open_block in
      let at = s.written in
      let st = open_stands h out rs p q in
      let n : length (w ++ framed e) ≤ length out = rw out_is at l in
      let f = framed_length e in
      let g = length-append w (framed e) in
      let y = written_is h in
      let fit : at + length e ≤ length out = omega arith in
      let t : tailed_out out at s.pending rs ≡ put out at e = unfold tailed_out chunk_bytes in (stands_finish st (record { said = refl; left = refl })).left in
      let z : size_of s.pending ≡ length e = size_open ∙ open_size_lem h in
      ap₂ (λ (x : List ℕ) (c : ℕ). put x (at + c) (trailer (part x at c))) t z
      ∙ ap (λ (x : List ℕ). put (put out at e) (at + length e) (trailer x)) (part_put out at e fit)
      ∙ put_put out at e (trailer e) (omega (arith, trailer_length e))
      ∙ overlay_put w (framed e) out out at y (whole_front out p) n
      ∙ ap (λ (x : List ℕ). overlay x out) (sym out_is)
    where
      whole_front : (out : List ℕ) → out ≡ overlay (between o b).out out → out ≡ overlay (written o b.closed) out
      whole_front out p = unfold between held entries_of in overlay_same (written o b.closed) _ out p

  -- the index
  abbrev handle : List ℕ
  handle = handle_bytes (record { offset = s.written; size = open_size s })

  abbrev pair : Pair
  pair = record { key = key; value = handle }

  index_is : index_pairs o 0 d.closed ≡ index_pairs o 0 b.closed ++ (pair ∷ [])
  unfolding close index_pairs
  index_is =
      index_append o 0 b.closed (chunk ∷ [])
      ∙ ap₂ (λ (at n : ℕ). index_pairs o 0 b.closed ++ (record { key = key; value = handle_bytes (record { offset = at; size = n }) } ∷ []))
      (zero-add (length (written o b.closed)) ∙ sym (written_is h)) (sym (open_size_lem h))

  pub closed_index : (x y : List ℕ) {x' y' : List ℕ} {a : Result (Unit {0}) NoRoom} {b' : BlockBuilder} → AddedIs s.indexed 0 x x' y y' key handle a b'
      → x ≡ overlay (between o b).index x → y ≡ overlay (between o b).index_restarts y
      → length (between o d).index ≤ length x → length (between o d).index_restarts ≤ length y → length (between o b).index < 2 ^ 32
      → (x' ≡ overlay (between o d).index x) × (y' ≡ overlay (between o d).index_restarts y)
  unfolding between held entries_of restarts_in
  closed_index x y {x'} {y'} {a} {b'} g p q lx ly u =
      let st = index_stands h x y p q in
      let after = lens closed_counted in
      let z : builder_after s.indexed key (length handle) ≡ (closed_state s key).indexed = unfold closed_state close_in in ap (builder_after s.indexed key) (handle_length s.written (open_size s)) in
      let zb = ap (λ (c : BlockBuilder). c.bytes) z in
      let zr = ap (λ (c : BlockBuilder). c.restarts) z in
      let fits : a ≡ Ok tt =
      g.fits ∙ ap fit_answer (fits_addable s.indexed 0 x y key handle (index_countable s m key k (length handle) (handle_long (record { offset = s.written; size = open_size s }))) (omega (arith, after.index)) (omega (arith, after.index_restarts))
      (omega (arith, (lens h).index))) in
      let more = stands_more st pair g fits in
      let kept = added_kept g in
      let r = entry_overlay x y more kept.0.after kept.1.after in
      let i = index_interval o in
      (r.0 ∙ ap (λ (ps : List Pair). overlay (packed i i [] ps) x) (sym index_is), r.1 ∙ ap (λ (ps : List Pair). overlay (restarts_of i i [] 0 ps) y) (sym index_is))

  -- the filters
  filters_close : filters_now o d ≡ filters_up_to (ends_at s) (filters_now o b)
  unfolding close filters_now filters_of end_of ends_at
  filters_close =
      wait_none _
      ∙ filters_append o 0 no_filters b.closed (chunk ∷ [])
      ∙ ap₂ (λ (at n : ℕ). filters_up_to (at + n + 5) (filters_now o b)) (zero-add (length (written o b.closed)) ∙ sym (written_is h)) (sym (open_size_lem h))

  abbrev groups : List (List ℕ)
  groups = groups_up_to (length (filters_now o b).made) (ends_at s / 2048) (filters_now o b).waiting

  made_close : (filters_now o d).made ≡ (filters_now o b).made ++ groups
  unfolding filters_up_to
  made_close = ap (λ (f : Filters). f.made) filters_close ∙ filters_until (ends_at s / 2048) (filters_now o b)

  pub waits_close : (P : List ℕ → Type 0) → P (filters_now o b).waiting → P [] → P (filters_now o d).waiting
  unfolding filters_up_to
  waits_close P p q = rw filters_close (waits_until P (ends_at s / 2048) (filters_now o b) p q)

  pub closed_hashes : (hs : List ℕ) → hs ≡ overlay (between o b).hashes hs → hs ≡ overlay (between o d).hashes hs
  unfolding between held
  closed_hashes hs p = waits_close (λ (w : List ℕ). hs ≡ overlay w hs) p (overlay_none hs)

  pub closed_filters : (f q hs : List ℕ) {f' q' : List ℕ} {e : Result Made NoRoom}
      → MadeFilters (choice_of s.options.filter) (groups_up_to s.made (ends_at s / 2048) (take s.waiting hs)) s.filtered s.made e f f' q q'
      → hs ≡ overlay (between o b).hashes hs → f ≡ overlay (between o b).filters f → q ≡ overlay (between o b).offsets q
      → length (between o d).filters ≤ length f → length (between o d).offsets ≤ length q → length (between o d).filters ≤ 2 ^ 32 - 1
      → (f' ≡ overlay (between o d).filters f) × (q' ≡ overlay (between o d).offsets q)
  unfolding between held
  closed_filters f q hs {f'} {q'} {e} g ph pf pq lf lq u =
      let n = filters_are h in
      let w : take s.waiting hs ≡ (filters_now o b).waiting = rw n.2 (overlay_front (filters_now o b).waiting hs hs ph) in
      let gg : groups_up_to s.made (ends_at s / 2048) (take s.waiting hs) ≡ groups = ap₂ (λ (n : ℕ) (v : List ℕ). groups_up_to n (ends_at s / 2048) v) n.1 w in
      let x : MadeFilters o.filtering groups s.filtered s.made e f f' q q' = rw ((options_are s o h.options).1, gg) at g in
      rw made_close (made_overlay o.filtering (filters_now o b).made groups f q x n.0 n.1 pf pq (rw made_close at lf) (rw made_close at lq) (rw made_close at u))

  -- all seven
  pub closed_all : (room : ℕ) (r r' : Runs) → Rooms room r → FitsRoom room (between o b) → FitsRoom room (between o d) → r ≡ overlaid (between o b) r → {closing : Bool} → closing ≡ true → ClosedRuns closing s key r r'
      → r' ≡ overlaid (between o d) r
  closed_all room r r' z t u p y g =
      let e = each p in
      let ix = closed_index r.index r.index_restarts (rw size_open at (g.index.done y)) e.index e.index_restarts (omega (arith, u.index, z.index)) (omega (arith, u.index_restarts, z.index_restarts)) (omega (arith, t.index, z.limit)) in
      let fx = closed_filters r.filters r.offsets r.hashes (g.filters.done y) e.hashes e.filters e.offsets (omega (arith, u.filters, z.filters)) (omega (arith, u.offsets, z.offsets)) (omega (arith, u.filters, z.limit)) in
      all_seven (record {
        out = g.out.done y ∙ closed_out r.out r.restarts e.out e.restarts (omega (arith, u.out, z.out));
        index = ix.0;
        filters = fx.0;
        restarts = g.restarts ∙ (unfold between held close restarts_in restarts_of in overlay_none r.restarts);
        index_restarts = ix.1;
        offsets = fx.1;
        hashes = g.hashes ∙ closed_hashes r.hashes e.hashes;
      })

-- What the block builder's calls make of the block that it builds.
use Prim.Native.Nat.{ℕ, ◌+◌, ◌≤◌}
use mathlib.Core.Path.{◌≡◌, refl, sym, ap, ap₂, ◌∙◌}
use mathlib.Core.List.{List, [], ◌∷◌, ◌++◌}
use mathlib.Core.Bool.{Bool, true, false, cond}
use native.Mathlib.Omega.{arith}
use native.Mathlib.Nat.{zero-add}
use lib.Dec.{leb, eqb}
use lib.ListN.{length, take, length-replicate}
use borrow.Author.Tests.{leb-true}
use Rattle.std.specs.Prelude.{Result, Ok}
use Rattle.codec.specs.Bytes.{part}
use Rattle.codec.specs.Put.{room, put, Wrote}
use Rattle.codec.specs.declared.put.NoRoom.{NoRoom}
use Rattle.codec.proofs.Prelude.{test, both, apart}
use Rattle.codec.proofs.PutLaws.{put_length, put_front, put_behind, Kept, kept_same, kept_put, wrote_behind}
use Rattle.block_builder.specs.declared.block_builder.BlockBuilder.{BlockBuilder}
use Rattle.blocks.specs.Block.{Pair, last_key_of, since_all, packed, restarts_of, tail_bytes, block_bytes}
use Rattle.blocks.specs.Count.{BlockCount, count_of, no_entries, count_entry, count_size}
use Rattle.block_builder.specs.Builder.{count_in, new_builder, builder_with, builder_after, countable_after, countable, fit_answer, is_restart, next_bytes, next_restart, addable, AddedIs, Counting, Stands}
use Rattle.blocks.proofs.BuildLaws.{packed_append, packed_one, restarts_append, restarts_one}
use Rattle.blocks.proofs.CountLaws.{count_none, count_entry_lem, count_size_lem}
use Rattle.block_builder.proofs.BuilderCode.{next_bytes_lem, next_restarts}

-- ---- counts

pub counting_none : (i : ℕ) → Counting i [] (new_builder i)
unfolding new_builder count_in no_entries
counting_none i = record { every = refl; counts = sym (count_none i); whole = length-replicate {A = ℕ} 1032 0 }

-- the builder with counts, after the last key, holds them
pub counts_with : (b : BlockBuilder) (c : BlockCount) → length c.last ≤ length b.last → count_in (builder_with b c c.last) ≡ c
unfolding count_in builder_with
counts_with b c h =
    let k : take (length c.last) (put b.last 0 c.last) ≡ c.last = rw zero-add at (put_front b.last 0 c.last (omega arith)) in
    λ i. record { bytes = c.bytes; restarts = c.restarts; since = c.since; last = k i }

module _ {i : ℕ} {ps : List Pair} {b : BlockBuilder} (s : Counting i ps b) (p : Pair) where
  -- the counts with a pair more
  pub after_is : count_entry b.interval (count_in b) p.key (length p.value) ≡ count_of i (ps ++ (p ∷ []))
  after_is = ap₂ (λ (j : ℕ) (c : BlockCount). count_entry j c p.key (length p.value)) s.every s.counts ∙ sym (count_entry_lem i ps p)

  counting_after : length p.key ≤ 1032 → Counting i (ps ++ (p ∷ [])) (builder_after b p.key (length p.value))
  unfolding builder_after builder_with count_entry
  counting_after h =
      let c = count_entry b.interval (count_in b) p.key (length p.value) in
      let k : length p.key ≤ length b.last = omega (arith, s.whole) in
      record {
        every = s.every;
        counts = counts_with b c k ∙ after_is;
        whole = put_length b.last 0 p.key ∙ s.whole;
      }

-- ---- adding, of any builder at all

module _ (b : BlockBuilder) (at : ℕ) (out restarts key value : List ℕ) where
  -- what an entry that fits has
  pub addable_is : addable b at out restarts key value ≡ true
      → (length key ≤ 1032) × (at + b.bytes + length (next_bytes b key value) ≤ length out) × (b.restarts + length (next_restart b) ≤ length restarts)
  unfolding addable countable_after room
  addable_is e =
      let x = both (countable b key (length value)) _ e in
      let k = both (leb (length key) 1032) _ x.0 in
      let y = both (leb (at + b.bytes + length (next_bytes b key value)) (length out)) _ x.1 in
      let z = both (leb (b.restarts + length (next_restart b)) (length restarts)) _ y.1 in
      (leb-true (length key) 1032 k.0, leb-true _ (length out) y.0, leb-true _ (length restarts) z.0)

-- equal answers are of equal tests
fit_same : (t u : Bool) → fit_answer t ≡ fit_answer u → t ≡ u
fit_same true true e = refl
fit_same true false e = apart cc
fit_same false true e = apart cc
fit_same false false e = refl

module _ {b : BlockBuilder} {at : ℕ} {out out' restarts restarts' key value : List ℕ} {r : Result (Unit {0}) NoRoom} {b' : BlockBuilder}
    (h : AddedIs b at out out' restarts restarts' key value r b') where
  -- an entry that fits is written, and one that does not leaves all as it was
  pub added_is : (fits : Bool) → r ≡ fit_answer fits
      → (b' ≡ cond fits (builder_after b key (length value)) b) × (out' ≡ cond fits (put out (at + b.bytes) (next_bytes b key value)) out)
      × (restarts' ≡ cond fits (put restarts b.restarts (next_restart b)) restarts)
  added_is fits f =
      let n : addable b at out restarts key value ≡ fits = fit_same _ fits (sym h.fits ∙ f) in
      (h.block ∙ rw n, h.written ∙ rw n, h.marked ∙ rw n)

  -- before the entry and behind it nothing changes
  pub added_kept : Kept (at + b.bytes) (at + b'.bytes) out out' × Kept b.restarts b'.restarts restarts restarts'
  unfolding builder_after builder_with
  added_kept =
      test (addable b at out restarts key value)
      (λ f.
      let d = added_is true (h.fits ∙ ap fit_answer f) in
      let z : b'.bytes ≡ (count_entry b.interval (count_in b) key (length value)).bytes = ap (λ (c : BlockBuilder). c.bytes) d.0 in
      let x : at + b.bytes + length (next_bytes b key value) ≡ at + b'.bytes = omega (arith, next_bytes_lem b key value) in
      let y : b.restarts + length (next_restart b) ≡ b'.restarts = next_restarts b key value ∙ sym (ap (λ (c : BlockBuilder). c.restarts) d.0) in
      (rw (← x, d.1) (kept_put out (at + b.bytes) (next_bytes b key value)), rw (← y, d.2) (kept_put restarts b.restarts (next_restart b))))
      (λ f. let d = added_is false (h.fits ∙ ap fit_answer f) in rw (d.1, d.2) (kept_same _ _ out, kept_same _ _ restarts))

-- ---- the block

pub stands_none : (i at : ℕ) (out restarts : List ℕ) → Stands i [] (new_builder i) at out restarts
unfolding new_builder part packed restarts_of
stands_none i at out restarts = record { counting = counting_none i; entries = refl; marks = refl }

module _ {i : ℕ} {ps : List Pair} {b : BlockBuilder} {at : ℕ} {out restarts : List ℕ} (s : Stands i ps b at out restarts) (p : Pair) where
  -- the next entry's bytes and its restart are the block's own
  next_packed : packed i i [] ps ++ next_bytes b p.key p.value ≡ packed i i [] (ps ++ (p ∷ []))
  unfolding next_bytes count_in count_of
  next_packed =
      let n : b.since ≡ since_all i i ps = ap (λ (c : BlockCount). c.since) s.counting.counts in
      let k : take b.len b.last ≡ last_key_of [] ps = ap (λ (c : BlockCount). c.last) s.counting.counts in
      rw (packed_append i i [] ps (p ∷ []), packed_one i (since_all i i ps) (last_key_of [] ps) p, s.counting.every, n, k)

  next_marks : restarts_of i i [] 0 ps ++ next_restart b ≡ restarts_of i i [] 0 (ps ++ (p ∷ []))
  unfolding next_restart is_restart count_in count_of
  next_marks =
      let n : b.since ≡ since_all i i ps = ap (λ (c : BlockCount). c.since) s.counting.counts in
      let m : b.bytes ≡ 0 + length (packed i i [] ps) = ap (λ (c : BlockCount). c.bytes) s.counting.counts ∙ sym (zero-add _) in
      rw (restarts_append i i [] 0 ps (p ∷ []), restarts_one i (since_all i i ps) (last_key_of [] ps) (0 + length (packed i i [] ps)) p, s.counting.every, n, m)
      (test (eqb (since_all i i ps) i) (λ t. rw t) (λ t. rw t))

  -- a pair that was added
  pub stands_more : {out' restarts' : List ℕ} {r : Result (Unit {0}) NoRoom} {b' : BlockBuilder} → AddedIs b at out out' restarts restarts' p.key p.value r b' → r ≡ Ok tt
      → Stands i (ps ++ (p ∷ [])) b' at out' restarts'
  unfolding builder_after builder_with
  stands_more h f =
      let d = added_is h true f in
      let t = addable_is b at out restarts p.key p.value (fit_same _ true (sym h.fits ∙ f)) in
      let nb = next_bytes b p.key p.value in
      let nr = next_restart b in
      rw (d.0, d.1, d.2)
      (record {
        counting = counting_after s.counting p t.0;
        entries =
            rw (← next_bytes_lem b p.key p.value) (put_behind out at b.bytes nb t.1 ∙ ap (λ (x : List ℕ). x ++ nb) s.entries ∙ next_packed);
        marks =
            rw (← next_restarts b p.key p.value) (put_front restarts b.restarts nr t.2 ∙ ap (λ (x : List ℕ). x ++ nr) s.marks ∙ next_marks);
      })

-- ---- finishing

module _ {i : ℕ} {ps : List Pair} {b : BlockBuilder} {at : ℕ} {out restarts : List ℕ} (s : Stands i ps b at out restarts) where
  -- the block's size is what the builder counts
  pub stands_size : length (block_bytes i ps) ≡ count_size (count_in b)
  stands_size = count_size_lem i ps ∙ ap count_size (sym s.counting.counts)

  -- behind the entries, the tail makes the block
  pub stands_finish : {w : Result ℕ NoRoom} {out' : List ℕ} → Wrote out (at + b.bytes) (tail_bytes (take b.restarts restarts)) w out'
      → Wrote out at (block_bytes i ps) w out'
  unfolding count_in count_of block_bytes
  stands_finish h =
      let n : b.bytes ≡ length (packed i i [] ps) = ap (λ (c : BlockCount). c.bytes) s.counting.counts in
      wrote_behind (packed i i [] ps) (rw n at s.entries) (rw (s.marks, n) at h)

-- Reading one entry from the rest of a block's entries, as code lends it: what stands behind a place.
use Prim.Native.Nat.{ℕ, ◌+◌, ◌-◌, ◌≤◌}
use mathlib.Core.Path.{◌≡◌, refl, sym, ◌∙◌}
use mathlib.Core.Option.{Option, none, some}
use mathlib.Core.List.{List}
use native.Mathlib.Omega.{arith}
use lib.ListN.{length, take, drop}
use Rattle.std.specs.Prelude.{None, Some}
use Rattle.codec.proofs.BytesLaws.{part_between}
use Rattle.block_reader.specs.declared.block.EntryRead.{EntryRead}
use Rattle.codec.proofs.Prelude.{split}
use Rattle.codec.proofs.PutLaws.{put_full}
use Rattle.blocks.specs.Block.{Entry, entry}
use Rattle.block_reader.specs.Said.{entry_answer, key_left}
use Rattle.block_reader.specs.Steps.{Taken, Untaken}
use Rattle.blocks.proofs.ReadLaws.{entry_value}
use Rattle.block_reader.proofs.EntryLaws.{after, at_said, at_left, no_step, taken}

module _ (d : List ℕ) (at : ℕ) (k : List ℕ) (m : ℕ) where
  -- none was read
  pub rest_bad : length k ≡ 1032 → entry_answer (length k) (entry 0 (take m k) (after d at)) ≡ None → Untaken d at (take m k)
  rest_bad long said e reads short = no_step (sym (at_said k (take m k) d at said)) reads (omega arith)

  -- one was read
  pub rest_taken : {k' : List ℕ} {e : EntryRead} → at ≤ length d → length k ≡ 1032 → entry_answer (length k) (entry 0 (take m k) (after d at)) ≡ Some e
      → k' ≡ key_left k (entry 0 (take m k) (after d at)) → Taken d at (take m k) (record e { value_at = at + e.value_at }) (take e.key_len k')
  rest_taken w long said left = taken d at k m w long (sym (at_said k (take m k) d at said)) (at_left k (take m k) d at left)

  -- none was read, and all is as it was
  pub rest_left : {k' : List ℕ} → entry_answer (length k) (entry 0 (take m k) (after d at)) ≡ None → k' ≡ key_left k (entry 0 (take m k) (after d at)) → k' ≡ k
  unfolding entry_answer key_left
  rest_left {k'} said left = go (entry 0 (take m k) (after d at)) said left
    where
      go : (o : Option Entry) → entry_answer (length k) o ≡ None → k' ≡ key_left k o → k' ≡ k
      go none s l = l
      go (some e) s l =
          split (length k) (length e.key)
          (λ full. l ∙ put_full k 0 e.key (omega arith))
          (λ room. absurd (no_step {o = some e} {e = e} s refl room))

-- its value, as code lends it
pub value_lent : {d : List ℕ} {at : ℕ} {before : List ℕ} {e : EntryRead} {key : List ℕ} (t : Taken d at before e key) → take (e.value_at + e.value_len - e.value_at) (drop e.value_at d) ≡ t.here.value
value_lent {d} {at} {before} {e = e} t =
    let w = entry_value at before d (omega (arith, t.up, t.within)) t.reads in
    part_between d e.value_at e.value_len ∙ sym (w.is ∙ rw (t.value_at, t.value_size))

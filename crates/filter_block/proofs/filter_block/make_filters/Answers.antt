-- `filter_block::filter_block::make_filters` meets its contract.
use Prim.Native.Nat.{ℕ, ◌-◌}
use mathlib.Core.Path.{◌≡◌, ap₂, ◌∙◌}
use mathlib.Core.List.{◌∷◌}
use native.Mathlib.Omega.{arith}
use lib.ListN.{length, take, drop, replicate, length-take, length-drop}
use Rattle.codec.proofs.PutLaws.{wrote_never}
use Rattle.bloom.specs.Choice.{choice_of}
use Rattle.filter_block.proofs.MakeLaws.{none_made, none_fits, filter_long, some_made}
use Rattle.filter_block.proofs.filter_block.make_filters.Goals as goal

pub returns-then-n-made : goal.returns-then-n-made
returns-then-n-made c = let a = c.args in
    none_made (choice_of a.choice) a.hashes.now a.bytes a.made a.n a.filters.now a.offsets.now c.if-n-made.true c.counted.result c.counted.ensures

pub returns-in_err-after : goal.returns-in_err-after
returns-in_err-after c = let a = c.args in
    none_fits (choice_of a.choice) a.hashes.now a.bytes a.made a.n a.filters.now a.offsets.now c.if-n-made.false (omega arith) _ c.filter_bytes-more.ensures
    c.from_residual.result c.from_residual.ensures.0 c.in_err-after.ensures

pub returns-in_err-create_filter : goal.returns-in_err-create_filter
returns-in_err-create_filter c = let a = c.args in
    let p = c.in_ok-after.ensures.0 in
    let l = filter_long (choice_of a.choice) a.hashes.now a.bytes a.made a.n a.filters.now a.offsets.now c.if-n-made.false (omega arith) _ c.filter_bytes-more.ensures p.small in
    absurd (wrote_never _ _ _ _ _ (omega (arith, p.in_run, l)) c.create_filter.ensures c.in_err-create_filter.was)

pub returns : goal.returns
returns c = let a = c.args in
    let w = c.in_ok-after.ensures in
    let k : length (take (a.n - a.made) (drop a.made a.offsets.now)) ≡ a.n - a.made = simp (length-take, length-drop) (omega (arith, w.0.in_slots, c.if-n-made.false)) in
    some_made (choice_of a.choice) a.hashes.now a.bytes a.made a.n a.filters.now a.offsets.now c.if-n-made.false (omega arith) _ c.filter_bytes-more.ensures
    c.in_ok-after.after c.create_filter.new.out c.write_starts.new.starts w c.create_filter.ensures.left
    (c.write_starts.ensures ∙ ap₂ (λ (k v : ℕ). a.bytes ∷ replicate (k - 1) v) k w.1)

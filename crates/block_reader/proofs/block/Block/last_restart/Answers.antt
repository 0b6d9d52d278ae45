-- `block_reader::block::Block::last_restart` meets its contract; `right` is for safety and the end alone.
use Prim.Native.Nat.{◌+◌, ◌-◌, ◌/◌}
use mathlib.Core.Path.{refl}
use mathlib.Core.Logic.{inl, inr}
use native.Mathlib.Omega.{arith}
use borrow.Author.Rules.{rules}
use Rattle.block_reader.proofs.block.Block.last_restart.Goals as goal

pub loop-left-init : goal.loop-left-init
loop-left-init g c = (search rules, omega (arith, c.args.self.now.laid.some_restart), inl refl)

pub loop-left-preserved-then-passes : goal.loop-left-preserved-then-passes
loop-left-preserved-then-passes g c =
    let l = c.loop-left in
    let t = c.loop-left-test.true in
    (search rules, search rules, inr (l.left + (l.right - l.left + 1) / 2, omega arith, omega (arith, l.invariant.1), c.restart-r.ensures, rw c.if-passes.true at c.passes.ensures))

pub loop-left-preserved : goal.loop-left-preserved
loop-left-preserved g c = (search rules, search rules, c.loop-left.invariant.2)

pub returns : goal.returns
returns g c = c.loop-left.invariant.2

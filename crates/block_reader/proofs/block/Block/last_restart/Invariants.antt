-- `block_reader::block::Block::last_restart` meets its contract; `right` is for safety and the end alone.
use Prim.Native.Nat.{◌-◌, ◌≤◌, ◌<◌}
use mathlib.Core.Bool.{true}
use Rattle.block_reader.specs.Steps.{Chosen}
use Rattle.block_reader.proofs.block.Block.last_restart.Given as goal

abbrev pub invariant-loop-left : goal.invariant-loop-left
invariant-loop-left g l = (l.left ≤ l.right) × (l.right < l.self.count) × Chosen l.self.bytes.now l.self.end l.self.count (λ r. goal.F-post g l.passes r true) l.from

abbrev pub decreases-loop-left : goal.decreases-loop-left
decreases-loop-left g l = l.right - l.left

-- `full_check::check::blocks_in` meets its contract. The loop's invariant: the blocks of the entries from `at` on, after what the block before
-- left, come to all.
use Prim.Native.Nat.{◌-◌}
use lib.ListN.{length}
use Rattle.full_check.proofs.DataLaws.{LeftAt}
use Rattle.block_reader.proofs.WalkLaws.{Scanning}
use Rattle.full_check.proofs.check.blocks_in.Given as goal

abbrev pub invariant-loop-at : goal.invariant-loop-at
invariant-loop-at l = Scanning l.d 0 (LeftAt l.table l.filter l.at l.edge) l.key l.at

abbrev pub decreases-loop-at : goal.decreases-loop-at
decreases-loop-at l = length l.d - l.at

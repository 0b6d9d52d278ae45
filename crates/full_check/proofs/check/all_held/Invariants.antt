-- `full_check::check::all_held` meets its contract. The loop's invariant: the test of the entries from `at` on comes to the test of all.
use Prim.Native.Nat.{◌-◌}
use lib.ListN.{length}
use Rattle.blocks.specs.Block.{pairs_of}
use Rattle.blocks.specs.Formed.{all}
use Rattle.full_check.specs.Steps.{lets}
use Rattle.block_reader.proofs.WalkLaws.{Scanning, Same}
use Rattle.full_check.proofs.check.all_held.Given as goal

abbrev pub invariant-loop-at : goal.invariant-loop-at
invariant-loop-at l = Scanning l.d 0 (Same (λ es. all (lets l.filter l.offset) (pairs_of es))) l.key l.at

abbrev pub decreases-loop-at : goal.decreases-loop-at
decreases-loop-at l = length l.d - l.at

-- `block_reader::block::walk` meets its contract. The loop's invariant: the same is said of the entries from `p` on as of all.
use Prim.Native.Nat.{◌-◌}
use lib.ListN.{length}
use Rattle.block_reader.specs.Said.{place_in}
use Rattle.block_reader.proofs.WalkLaws.{Scanning, Same}
use Rattle.block_reader.proofs.block.walk.Given as goal

abbrev pub invariant-loop-p : goal.invariant-loop-p
invariant-loop-p l = Scanning l.d l.from (Same (place_in l.which l.at)) l.before l.p

abbrev pub decreases-loop-p : goal.decreases-loop-p
decreases-loop-p l = length l.d - l.p

-- `block_reader::block::scan` meets its contract. The loop's invariant: the same is said of the entries from `at` on as of all, and the key buffer is as
-- it was.
use Prim.Native.Nat.{◌-◌}
use mathlib.Core.Path.{◌≡◌}
use lib.ListN.{length}
use Rattle.blocks.specs.Search.{seek_in}
use Rattle.block_reader.proofs.WalkLaws.{Scanning, Same}
use Rattle.block_reader.proofs.block.scan.Given as goal

abbrev pub invariant-loop-at : goal.invariant-loop-at
invariant-loop-at l = Scanning l.d l.from (Same (seek_in (record { word = l.word; edition = l.sequence }))) l.before l.at × (l.key ≡ l.initial.key)

abbrev pub decreases-loop-at : goal.decreases-loop-at
decreases-loop-at l = length l.d - l.at

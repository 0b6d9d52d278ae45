-- `table_block::table_block::bloom_in` meets its contract. The loop's invariant: the entries from `at` on name the same handle as all.
use Prim.Native.Nat.{◌-◌}
use lib.ListN.{length}
use Rattle.block_reader.proofs.WalkLaws.{Scanning, Same}
use Rattle.table_block.proofs.BloomLaws.{named}
use Rattle.table_block.proofs.table_block.bloom_in.Given as goal

abbrev pub invariant-loop-at : goal.invariant-loop-at
invariant-loop-at l = Scanning l.d 0 (Same named) l.key l.at

abbrev pub decreases-loop-at : goal.decreases-loop-at
decreases-loop-at l = length l.d - l.at

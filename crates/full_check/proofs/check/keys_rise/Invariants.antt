-- `full_check::check::keys_rise` meets its contract. The loop's invariant: the test of the entries from `at` on, behind the key before, comes to
-- the test of all, and `last` is that key.
use Prim.Native.Nat.{◌-◌}
use mathlib.Core.Path.{◌≡◌}
use lib.ListN.{length}
use Rattle.block_reader.specs.Said.{kind_of}
use Rattle.full_check.proofs.KeyLaws.{RisesLeft}
use Rattle.block_reader.proofs.WalkLaws.{Scanning}
use Rattle.full_check.proofs.check.keys_rise.Given as goal

abbrev pub invariant-loop-at : goal.invariant-loop-at
invariant-loop-at l = Scanning l.d 0 (RisesLeft (kind_of l.kind) l.at l.key) l.key l.at × (l.last ≡ l.key)

abbrev pub decreases-loop-at : goal.decreases-loop-at
decreases-loop-at l = length l.d - l.at

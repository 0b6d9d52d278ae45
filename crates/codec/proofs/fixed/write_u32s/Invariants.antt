-- `codec::fixed::write_u32s` meets its contract. The invariant: to store the bytes of what is left at its place is to store all of them.
use mathlib.Core.Path.{◌≡◌}
use Prim.Native.Nat.{◌+◌, ◌*◌}
use lib.ListN.{length, drop}
use lib.Seq.{sets}
use Rattle.codec.specs.Bytes.{fours}
use Rattle.codec.proofs.fixed.write_u32s.Given as goal

abbrev pub invariant-loop-x : goal.invariant-loop-x
invariant-loop-x l = (l.end ≡ l.at + 4 * l.x-index) × (sets l.out l.end (fours (drop l.x-index l.xs)) ≡ sets l.initial.out l.at (fours l.xs)) × (length l.out ≡ length l.initial.out)

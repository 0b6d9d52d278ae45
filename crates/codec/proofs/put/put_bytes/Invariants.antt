-- `codec::put::put_bytes` meets its contract. The invariant: to store what is left of src at its place is to store all of src.
use mathlib.Core.Path.{◌≡◌}
use Prim.Native.Nat.{◌+◌}
use lib.ListN.{length, drop}
use lib.Seq.{sets}
use Rattle.codec.proofs.put.put_bytes.Given as goal

abbrev pub invariant-loop-i : goal.invariant-loop-i
invariant-loop-i l = (sets l.out (l.at + l.i) (drop l.i l.src) ≡ sets l.initial.out l.at l.src) × (length l.out ≡ length l.initial.out)

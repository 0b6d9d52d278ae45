-- `keys::cmp::cmp` meets its contract. The invariant: the two are the same up to eight k. The last eight bytes may start before that.
use mathlib.Core.Path.{◌≡◌}
use Prim.Native.Nat.{◌*◌}
use lib.ListN.{take}
use Rattle.keys.proofs.cmp.cmp.Given as goal

abbrev pub invariant-loop-k : goal.invariant-loop-k
invariant-loop-k l = take (8 * l.k) l.a ≡ take (8 * l.k) l.b

-- `keys::cmp::common_from` meets its contract. The invariant: the two are the same up to i.
use mathlib.Core.Path.{◌≡◌}
use lib.ListN.{take}
use Rattle.keys.proofs.cmp.common_from.Given as goal

abbrev pub invariant-loop-i : goal.invariant-loop-i
invariant-loop-i l = take l.i l.a ≡ take l.i l.b

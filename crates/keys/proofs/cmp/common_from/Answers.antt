-- `keys::cmp::common_from` meets its contract. The invariant: the two are the same up to i.
use native.Mathlib.Omega.{arith}
use Rattle.keys.proofs.CompareLaws.{same_at, common_apart, common_ended}
use Rattle.keys.proofs.cmp.common_from.Goals as goal

pub returns-then-a-i : goal.returns-then-a-i
returns-then-a-i c = common_apart _ _ _ c.loop-i.invariant (omega arith) (omega arith) c.if-a-i.true

pub returns : goal.returns
returns c = let a = c.args in
    common_ended a.a.now a.b.now c.min-n.result (same_at a.a.now a.b.now (omega arith) c.loop-i.invariant) c.min-n.ensures

-- `keys::cmp::common_eights` meets its contract. The invariant: the two are the same up to eight k.
use Prim.Native.Nat.{◌*◌}
use native.Mathlib.Omega.{arith}
use Rattle.codec.proofs.Lists.{below_all}
use Rattle.keys.proofs.CompareLaws.{parts_same, same_at}
use Rattle.keys.proofs.cmp.common_eights.Goals as goal

pub loop-k-preserved : goal.loop-k-preserved
loop-k-preserved c = let l = c.loop-k in
    let a = c.args in
    same_at a.a.now a.b.now (omega arith)
    (parts_same a.a.now a.b.now (8 * l.k) l.invariant 8 (omega arith) (omega arith)
    (below_all 256 a.a.now (λ i. (c.type_inv.a i).fits)) (below_all 256 a.b.now (λ i. (c.type_inv.b i).fits))
    c.eight.ensures c.eight-in-loop-k.ensures c.if-eight.false)

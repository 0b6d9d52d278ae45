-- `keys::cmp::cmp` meets its contract. The invariant: the two are the same up to eight k. The last eight bytes may start before that.
use mathlib.Core.Path.{◌≡◌}
use Prim.Native.Nat.{◌+◌, ◌*◌, ◌-◌}
use native.Mathlib.Omega.{arith}
use lib.ListN.{take}
use Rattle.codec.proofs.Lists.{Below, below_all}
use Rattle.keys.proofs.AnswerLaws.{number_told}
use Rattle.keys.proofs.CompareLaws.{parts_apart, parts_same, same_at, same_less, bytes_ended}
use Rattle.keys.proofs.cmp.cmp.Goals as goal
use Rattle.keys.proofs.cmp.cmp.Goals.{After-loop-k, Else-n-lt8}

-- both are bytes
bytes : (c : Else-n-lt8) → Below 256 c.args.a.now × Below 256 c.args.b.now
bytes c = (
  below_all 256 c.args.a.now (λ i. (c.type_inv.a i).fits),
  below_all 256 c.args.b.now (λ i. (c.type_inv.b i).fits),
)

-- after the loop they are the same up to the last eight
same : (c : After-loop-k) →
    let a = c.args in
    let k = c.min-n.result - 8 in
    take k a.a.now ≡ take k a.b.now
same c =
    let a = c.args in
    same_less a.a.now a.b.now (8 * c.loop-k.k) c.loop-k.invariant (c.min-n.result - 8) (omega arith)

pub returns-then-x-y : goal.returns-then-x-y
returns-then-x-y c = let l = c.loop-k in
    let a = c.args in
    let (p, q) = bytes (goal.at.returns-then-x-y c).Else-n-lt8 in
    number_told _ _ c.cmp.ensures
    (parts_apart a.a.now a.b.now (8 * l.k) l.invariant 8 (omega arith) (omega arith) p q c.eight-x.ensures c.eight-y.ensures c.if-x-y.true)

pub loop-k-preserved : goal.loop-k-preserved
loop-k-preserved c = let l = c.loop-k in
    let a = c.args in
    let (p, q) = bytes (goal.at.loop-k-preserved c).Else-n-lt8 in
    same_at a.a.now a.b.now (omega arith)
    (parts_same a.a.now a.b.now (8 * l.k) l.invariant 8 (omega arith) (omega arith) p q c.eight-x.ensures c.eight-y.ensures c.if-x-y.false)

pub returns-then-x-y-2 : goal.returns-then-x-y-2
returns-then-x-y-2 c = let a = c.args in
    let (p, q) = bytes (goal.at.returns-then-x-y-2 c).Else-n-lt8 in
    number_told _ _ c.cmp-then-x-y-2.ensures
    (parts_apart a.a.now a.b.now (c.min-n.result - 8) (same (goal.at.returns-then-x-y-2 c).After-loop-k) 8 (omega arith) (omega arith) p q
    c.eight-x-2.ensures c.eight-y-2.ensures c.if-x-y-2.true)

pub returns : goal.returns
returns c = let a = c.args in
    let n = c.min-n.result in
    let (p, q) = bytes (goal.at.returns c).Else-n-lt8 in
    number_told _ _ c.cmp-2.ensures
    (bytes_ended a.a.now a.b.now (n - 8 + 8)
    (parts_same a.a.now a.b.now (n - 8) (same (goal.at.returns c).After-loop-k) 8 (omega arith) (omega arith) p q c.eight-x-2.ensures c.eight-y-2.ensures c.if-x-y-2.false)
    (omega arith))

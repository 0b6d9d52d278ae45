-- `keys::cmp::joined_below` meets its contract: the front decides, then the byte, then the back.
use mathlib.Core.Path.{◌≡◌, refl, ap, ◌∙◌}
use mathlib.Core.List.{List}
use Prim.Native.Nat.{ℕ, ◌+◌, compare}
use lib.ListN.{length, take, get_or}
use Rattle.codec.proofs.BytesLaws.{part_rest}
use Rattle.keys.specs.Answers.{order_answer}
use Rattle.keys.specs.Order.{and_then, is_less, by_bytes, bytes_below}
use Rattle.keys.proofs.AnswerLaws.{less_told, number_told, then_told}
use Rattle.keys.proofs.PlanLaws.{below_front, joined_front, joined_back}
use native.Mathlib.Omega.{arith}
use Rattle.keys.proofs.cmp.joined_below.Goals as goal
use Rattle.keys.proofs.cmp.joined_below.Goals.{After-then}

-- what the front and the byte answer
fronts : (c : After-then) →
    let a = c.args in
    let n = length a.front.now in
    c.then.result ≡ order_answer (and_then (by_bytes a.front.now (take n a.b.now)) (compare a.x (get_or a.b.now n 0)))
fronts c = then_told _ _ c.then.ensures c.cmp-2.ensures (number_told _ _ c.cmp-3.ensures refl)

pub returns-then-b-n : goal.returns-then-b-n
unfolding bytes_below
returns-then-b-n c = let a = c.args in
    less_told _ c.is_lt.ensures c.cmp.ensures ∙ below_front a.front.now _ a.b.now (omega arith)

pub returns-in-Equal : goal.returns-in-Equal
returns-in-Equal c = let a = c.args in
    less_told _ c.is_lt-in-Equal.ensures c.cmp-in-Equal.ensures
    ∙ ap (λ (s : List ℕ). is_less (by_bytes a.back.now s)) (part_rest a.b.now (length a.front.now + 1))
    ∙ joined_back a.front.now a.x a.back.now a.b.now (omega arith) (fronts (goal.at.returns-in-Equal c).After-then) c.in-Equal.is

pub returns-in_default : goal.returns-in_default
returns-in_default c = let a = c.args in
    let e = fronts (goal.at.returns-in_default c).After-then in
    less_told _ c.is_lt-in_default.ensures e ∙ joined_front a.front.now a.x a.back.now a.b.now (omega arith) e c.in_default.not-Equal

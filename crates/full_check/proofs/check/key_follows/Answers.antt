-- `full_check::check::key_follows` meets its contract.
use mathlib.Core.Path.{◌≡◌, refl, sym, ◌∙◌}
use mathlib.Core.Bool.{Bool, true, false, ◌&&◌, false≢true}
use lib.Dec.{compare_is_eq}
use Rattle.keys.specs.Order.{user_of, point_of, by_point, below, bytes_below}
use Rattle.keys.proofs.AnswerLaws.{less_told}
use Rattle.table.specs.Table.{follows}
use Rattle.full_check.specs.Steps.{edge_of}
use Rattle.full_check.proofs.KeyLaws.{follows_is}
use Rattle.full_check.proofs.check.key_follows.Goals.{Joined-key_below, then-key_below, else-key_below}
use Rattle.full_check.proofs.check.key_follows.Goals as goal

first_decides : (a b : Bool) → a ≡ false → false ≡ a && b
first_decides a b e = rw e

second_decides : (a b : Bool) → a ≡ true → b ≡ a && b
second_decides a b e = rw e

-- two tests as one: they decide, or what is asked after them
they_decide : (a b x : Bool) {v : Bool} → v ≡ a && b → v ≡ false → v ≡ a && (b && x)
they_decide true true x e f = absurd (false≢true (sym f ∙ e))
they_decide true false x e f = f
they_decide false b x e f = f

rest_decides : (a b x : Bool) {v : Bool} → v ≡ a && b → v ≡ true → x ≡ a && (b && x)
rest_decides true true x e f = refl
rest_decides true false x e f = absurd (false≢true (sym e ∙ f))
rest_decides false b x e f = absurd (false≢true (sym e ∙ f))

-- the last key and the index key that the block before left are below the key
first_tests : (c : Joined-key_below) → c.if-key_below.value ≡ below c.as_slice-last_key.result.now c.args.key.now && below c.as_slice-index_key.result.now c.args.key.now
first_tests c =
    elim c.if-key_below.branch [
      | then-key_below w ↦ w.value-is ∙ w.key_below-then-key_below.ensures ∙ second_decides _ _ (sym c.key_below.ensures ∙ w.if-key_below.true)
      | else-key_below w ↦ w.value-is ∙ w.if-key_below.false ∙ first_decides _ _ (sym c.key_below.ensures ∙ w.if-key_below.false)
    ]

pub returns-in_default : goal.returns-in_default
unfolding edge_of follows
returns-in_default c = rw c.in_default.is

pub returns-then-same_point : goal.returns-then-same_point
returns-then-same_point c =
    let k = c.args.key.now in
    let i = c.as_slice-index_key.result.now in
    let l = c.as_slice-last_key.result.now in
    let same : compare_is_eq (by_point (point_of i) (point_of l)) ≡ true = sym c.same_point.ensures ∙ c.if-same_point.true in
    rw (c.in-Some.is, follows_is c.in-Some.edge.now k c.as_slice-index_key.ensures c.as_slice-last_key.ensures, same)
    (c.if-same_point.true ∙ rest_decides (below l k) (below i k) true (first_tests (goal.at.returns-then-same_point c).Joined-key_below) c.if-key_below-2.true)

pub returns-else-same_point : goal.returns-else-same_point
unfolding bytes_below
returns-else-same_point c =
    let k = c.args.key.now in
    let i = c.as_slice-index_key.result.now in
    let l = c.as_slice-last_key.result.now in
    let other : compare_is_eq (by_point (point_of i) (point_of l)) ≡ false = sym c.same_point.ensures ∙ c.if-same_point.false in
    let less = less_told _ c.is_lt.ensures c.cmp.ensures in
    let words : bytes_below c.user_key.result.now c.user_key-else-same_point.result.now ≡ bytes_below (user_of i) (user_of k) = rw (c.user_key.ensures, c.user_key-else-same_point.ensures) in
    rw (c.in-Some.is, follows_is c.in-Some.edge.now k c.as_slice-index_key.ensures c.as_slice-last_key.ensures, other)
    (less ∙ words ∙ rest_decides (below l k) (below i k) _ (first_tests (goal.at.returns-else-same_point c).Joined-key_below) c.if-key_below-2.true)

pub returns-else-key_below-2 : goal.returns-else-key_below-2
returns-else-key_below-2 c =
    let k = c.args.key.now in
    let i = c.as_slice-index_key.result.now in
    let l = c.as_slice-last_key.result.now in
    rw (c.in-Some.is, follows_is c.in-Some.edge.now k c.as_slice-index_key.ensures c.as_slice-last_key.ensures)
    (they_decide (below l k) (below i k) _ (first_tests (goal.at.returns-else-key_below-2 c).Joined-key_below) c.if-key_below-2.false)

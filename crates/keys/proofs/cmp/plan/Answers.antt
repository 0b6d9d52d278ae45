-- `keys::cmp::plan` meets its contract.
use mathlib.Core.Path.{◌≡◌, sym, ap, ◌∙◌}
use mathlib.Core.Bool.{true, false}
use borrow.Author.Tests.{eqb-true, eqb-false}
use Prim.Native.Nat.{◌<◌}
use lib.ListN.{length}
use Rattle.keys.specs.Order.{bytes_below}
use Rattle.keys.specs.Plan.{sep_bytes, SepFits}
use Rattle.keys.proofs.AnswerLaws.{less_told}
use Rattle.keys.proofs.PlanLaws.{sep_empty, sep_above, sep_chosen}
use native.Mathlib.Omega.{arith}
use Rattle.keys.proofs.cmp.plan.Goals as goal
use Rattle.keys.proofs.cmp.plan.Goals.{After-shortest-s, then-is_empty-via-then-is_empty, then-is_empty-via-else-is_empty+then-not-is_lt}

-- the key is not empty
some : (c : After-shortest-s) → 0 < length c.args.a.now
some c = let d = eqb-false _ _ (sym c.is_empty.ensures ∙ c.if-is_empty.false) in omega arith

-- and it is below the next
below : (c : After-shortest-s) → bytes_below c.args.a.now c.args.b.now ≡ true
unfolding bytes_below
below c = sym (less_told _ c.is_lt.ensures c.cmp.ensures) ∙ c.if-not-is_lt.false

pub returns-then-is_empty : goal.returns-then-is_empty
unfolding bytes_below sep_bytes SepFits
returns-then-is_empty c =
    elim c.then-is_empty.branch [
      | then-is_empty-via-then-is_empty w ↦ record { fits = tt; gives = sep_empty _ _ (eqb-true _ _ (sym c.is_empty.ensures ∙ w.if-is_empty.true)) }
      | then-is_empty-via-else-is_empty+then-not-is_lt w ↦
          record { fits = tt; gives = sep_above _ _ (sym (less_told _ w.is_lt.ensures w.cmp.ensures) ∙ w.if-not-is_lt.true) }
    ]

pub returns-then-sep_below : goal.returns-then-sep_below
returns-then-sep_below c = let a = c.args in
    let f = (goal.at.returns-then-sep_below c).After-shortest-s in
    let s = c.shortest-s.ensures in
    record {
      fits = s.fits;
      gives = s.gives ∙ sep_chosen a.a.now a.b.now true (some f) (below f) (sym (ap (λ l. bytes_below l a.b.now) s.gives) ∙ sym c.if-sep_below.ensures);
    }

pub returns-else-sep_below : goal.returns-else-sep_below
unfolding sep_bytes SepFits
returns-else-sep_below c = let a = c.args in
    let f = (goal.at.returns-else-sep_below c).After-shortest-s in
    let s = c.shortest-s.ensures in
    record {
      fits = tt;
      gives = sep_chosen a.a.now a.b.now false (some f) (below f) (sym (ap (λ l. bytes_below l a.b.now) s.gives) ∙ sym c.if-sep_below.ensures);
    }

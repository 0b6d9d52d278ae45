-- `bloom::filter::key_may_match` meets its contract.
use Rattle.std.proofs.Common.{ℕ, ◌*◌, length, sym, ap, ◌∙◌, arith}
use borrow.Author.Tests.{eqb-true}
use Rattle.filters.specs.Filter.{places_of, all_raised}
use Rattle.filters.proofs.FilterLaws.{may_few}
use Rattle.bloom.proofs.FilterCode.{may_many, may_bits}
use Rattle.bloom.proofs.filter.key_may_match.Goals as goal
use Rattle.bloom.proofs.filter.key_may_match.Goals.{then-is_empty, else-is_empty}

pub returns-in_default : goal.returns-in_default
returns-in_default c = sym (may_few _ _ (omega (arith, c.in_default.ensures.cases)))

pub returns-then-k-gt30 : goal.returns-then-k-gt30
returns-then-k-gt30 c = let f = c.args.filter.now in
    let parts = c.in-Some.ensures.cases in
    c.if-k-gt30.true
    ∙ elim c.if-is_empty.branch [
      | then-is_empty w ↦ let z = eqb-true _ _ (sym c.is_empty.ensures ∙ w.if-is_empty.true) in sym (may_few f _ (omega (arith, parts.1, z)))
      | else-is_empty w ↦ may_many f _ _ _ parts.0 (sym w.value-is ∙ c.if-k-gt30.true)
    ]

pub returns-else-k-gt30 : goal.returns-else-k-gt30
returns-else-k-gt30 c =
    elim c.if-is_empty.branch [
      | then-is_empty w ↦ cc
      | else-is_empty w ↦
          c.all_raised.ensures
          ∙ ap (λ (k : ℕ). all_raised c.in-Some.bits.now (places_of k (8 * length c.in-Some.bits.now) c.args.hash)) c.from.ensures
          ∙ may_bits _ _ _ _ c.in-Some.ensures.cases.0 (sym c.is_empty.ensures ∙ w.if-is_empty.false) (sym w.value-is ∙ c.if-k-gt30.false)
    ]

-- `full_check::check::sealed` meets its contract.
use mathlib.Core.Path.{sym, ◌∙◌}
use native.Mathlib.Omega.{arith}
use Rattle.checksum.proofs.TrailerLaws.{stands_within}
use Rattle.full_check.proofs.BlockLaws.{lent, unsealed, is_sealed}
use Rattle.full_check.proofs.check.sealed.Goals as goal

pub returns-then-not-trailer_stands : goal.returns-then-not-trailer_stands
returns-then-not-trailer_stands c = unsealed _ _ (sym c.trailer_stands.ensures ∙ c.if-not-trailer_stands.true)

pub overflow_add-end : goal.overflow_add-end
overflow_add-end c = omega (arith, stands_within _ _ _ (sym c.trailer_stands.ensures ∙ c.if-not-trailer_stands.false))

pub slice_bounds-result-end : goal.slice_bounds-result-end
slice_bounds-result-end c = omega (arith, stands_within _ _ _ (sym c.trailer_stands.ensures ∙ c.if-not-trailer_stands.false))

pub returns : goal.returns
returns c = (tt, is_sealed _ _ (sym c.trailer_stands.ensures ∙ c.if-not-trailer_stands.false), lent _ _)

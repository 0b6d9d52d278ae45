-- `full_check::check::same_point` meets its contract.
use mathlib.Core.Path.{refl, sym, ap, ◌∙◌}
use mathlib.Core.Bool.{not}
use Rattle.keys.proofs.OrderLaws.{neither_below}
use Rattle.full_check.proofs.check.same_point.Goals as goal

pub returns-then-not-key_below : goal.returns-then-not-key_below
returns-then-not-key_below c = neither_below _ _ (sym c.if-not-key_below.true ∙ c.key_below.ensures) c.key_below-then-not-key_below.ensures

pub returns-else-not-key_below : goal.returns-else-not-key_below
returns-else-not-key_below c = ap not c.if-not-key_below.false ∙ neither_below _ _ (sym c.if-not-key_below.false ∙ c.key_below.ensures) refl

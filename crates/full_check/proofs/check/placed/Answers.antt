-- `full_check::check::placed` meets its contract.
use mathlib.Core.Path.{sym, ◌∙◌}
use Rattle.full_check.proofs.BlockLaws.{outside, inside}
use Rattle.full_check.proofs.check.placed.Goals as goal

pub returns-then-not-placed : goal.returns-then-not-placed
returns-then-not-placed c = outside _ _ (sym c.placed.ensures ∙ c.if-not-placed.true)

pub returns : goal.returns
returns c = rw (sym (inside c.args.table.now c.args.handle (sym c.placed.ensures ∙ c.if-not-placed.false))) c.sealed.ensures

-- `builder::table_builder::is_above` meets its contract.
use mathlib.Core.Path.{◌∙◌}
use borrow.Author.Tests.{eq-eqb}
use Rattle.builder.specs.Steps.{last_of}
use Rattle.builder.proofs.DecideLaws.{above_none, above_some}
use Rattle.builder.proofs.table_builder.is_above.Goals as goal

pub returns-then-s-eq0 : goal.returns-then-s-eq0
returns-then-s-eq0 c = let a = c.args in eq-eqb a.s.now.pending.restarts 0 c.if-s-eq0.true ∙ above_none a.s.now a.key.now c.if-s-eq0.true

pub returns-else-s-eq0 : goal.returns-else-s-eq0
unfolding last_of
returns-else-s-eq0 c = let a = c.args in rw c.front.ensures at c.key_below.ensures ∙ above_some a.s.now a.key.now c.if-s-eq0.false

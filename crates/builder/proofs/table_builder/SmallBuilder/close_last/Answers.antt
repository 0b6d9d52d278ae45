-- `builder::table_builder::SmallBuilder::close_last` meets its contract.
use mathlib.Core.Path.{ap, ◌∙◌}
use Rattle.builder.specs.Steps.{last_of, closed_state}
use Rattle.builder.proofs.SizeLaws.{last_none, last_some}
use Rattle.builder.proofs.table_builder.SmallBuilder.close_last.Goals as goal

pub returns-then-self-eq0 : goal.returns-then-self-eq0
returns-then-self-eq0 c = c.requires ∙ last_none c.args.self.now.state.now c.if-self-eq0.true

pub returns : goal.returns
unfolding last_of
returns c = c.close_under.ensures ∙ ap (closed_state c.args.self.now.state.now) c.last.ensures.said ∙ last_some c.args.self.now.state.now c.if-self-eq0.false

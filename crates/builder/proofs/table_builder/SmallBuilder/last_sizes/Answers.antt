-- `builder::table_builder::SmallBuilder::last_sizes` meets its contract.
use mathlib.Core.Path.{ap, ◌∙◌}
use Prim.Native.Nat.{ℕ}
use mathlib.Core.List.{List}
use Rattle.builder.specs.Steps.{last_of, sizes_in, closed_state}
use Rattle.builder.proofs.SizeLaws.{last_some, sizes_none}
use Rattle.builder.proofs.table_builder.SmallBuilder.last_sizes.Goals as goal

pub returns-then-self-eq0 : goal.returns-then-self-eq0
returns-then-self-eq0 c = sizes_none c.args.self.now.state.now c.args.self.now.small c.if-self-eq0.true c.size_estimate.ensures c.filters_of.ensures

pub returns : goal.returns
unfolding last_of
returns c = c.closed_sizes.ensures ∙ ap (λ (k : List ℕ). sizes_in (closed_state c.args.self.now.state.now k)) c.last.ensures.said ∙ ap sizes_in (last_some c.args.self.now.state.now c.if-self-eq0.false)

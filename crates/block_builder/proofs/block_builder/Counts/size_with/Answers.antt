-- `block_builder::block_builder::Counts::size_with` meets its contract.
use mathlib.Core.Path.{sym, ◌∙◌}
use Rattle.block_builder.proofs.BuilderCode.{sized_none, sized_some}
use Rattle.block_builder.proofs.block_builder.Counts.size_with.Goals as goal

pub returns-in-Ok : goal.returns-in-Ok
returns-in-Ok c = sized_some _ _ _ _ (sym c.plan.ensures ∙ c.in-Ok.is) c.block_size.ensures

pub returns-in-Err : goal.returns-in-Err
returns-in-Err c = sized_none _ _ _ _ (sym c.plan.ensures ∙ c.in-Err.is)

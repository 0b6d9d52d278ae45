-- `block_builder::block_builder::BlockBuilder::count` meets its contract.
use mathlib.Core.Path.{sym, ◌∙◌}
use Rattle.block_builder.proofs.BuilderCode.{counted_none, counted_one}
use Rattle.block_builder.proofs.block_builder.BlockBuilder.count.Goals as goal

pub returns-in_err-plan : goal.returns-in_err-plan
returns-in_err-plan c = let e = rw (c.counts.ensures.interval, c.counts.ensures.counts) at c.plan.ensures in
    counted_none _ _ _ (sym e ∙ c.in_err-plan.was) c.from_residual.ensures.0

pub returns : goal.returns
returns c = let e = rw (c.counts.ensures.interval, c.counts.ensures.counts) at c.plan.ensures in
    counted_one _ _ _ (sym e ∙ c.in_ok-plan.was) c.enter.ensures

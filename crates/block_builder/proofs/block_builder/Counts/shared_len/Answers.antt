-- `block_builder::block_builder::Counts::shared_len` meets its contract.
use mathlib.Core.Path.{◌∙◌}
use Rattle.block_builder.proofs.BuilderCode.{shared_none, shared_common}
use Rattle.block_builder.proofs.block_builder.Counts.shared_len.Goals as goal

pub returns-then-self : goal.returns-then-self
returns-then-self c = c.common_len.ensures ∙ shared_common _ _ _ _ c.if-self.true

pub returns-else-self : goal.returns-else-self
returns-else-self c = shared_none _ _ _ _ c.if-self.false

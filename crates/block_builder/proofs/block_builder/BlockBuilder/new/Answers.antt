-- `block_builder::block_builder::BlockBuilder::new` meets its contract.
use mathlib.Core.Path.{refl}
use Rattle.block_builder.specs.Builder.{new_builder}
use Rattle.block_builder.proofs.block_builder.BlockBuilder.new.Goals as goal

pub returns : goal.returns
unfolding new_builder
returns c = refl

-- `block_builder::block_builder::BlockBuilder::enter` meets its contract.
use Rattle.block_builder.specs.Builder.{builder_with}
use Rattle.block_builder.proofs.block_builder.BlockBuilder.enter.Goals as goal

pub returns : goal.returns
unfolding builder_with
returns c = rw c.put_bytes.ensures.left

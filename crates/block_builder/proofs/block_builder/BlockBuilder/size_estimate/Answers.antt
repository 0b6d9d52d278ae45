-- `block_builder::block_builder::BlockBuilder::size_estimate` meets its contract.
use Rattle.blocks.specs.Count.{count_size}
use Rattle.block_builder.specs.Builder.{count_in}
use Rattle.block_builder.proofs.block_builder.BlockBuilder.size_estimate.Goals as goal

pub returns : goal.returns
unfolding count_size count_in
returns c = c.block_size.ensures

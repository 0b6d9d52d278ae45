-- `block_reader::block::is_bloom` meets its contract.
use Rattle.blocks.specs.Formed.{bloom_name}
use Rattle.block_reader.proofs.block.is_bloom.Goals as goal

pub returns : goal.returns
unfolding bloom_name
returns c = c.same.ensures

-- `pieces::block::salevoni_block_finish` meets its contract.
use Rattle.pieces.proofs.BlockLaws.{from_front}
use Rattle.pieces.proofs.block.salevoni_block_finish.Goals as goal

pub returns : goal.returns
returns c = from_front c.finish.ensures c.from.ensures

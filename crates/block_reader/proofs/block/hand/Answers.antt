-- `block_reader::block::hand` meets its contract.
use Rattle.block_reader.proofs.FoundLaws.{handed_none, handed_some}
use Rattle.block_reader.proofs.block.hand.Goals as goal

pub returns-in_default : goal.returns-in_default
returns-in_default c = handed_none _ _ _ _ _ c.put_bytes.ensures c.in_default.is

pub returns : goal.returns
returns c = handed_some _ _ _ _ _ c.put_bytes.ensures c.in-Ok.is

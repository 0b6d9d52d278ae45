-- `table_write::table_write::seal_block` meets its contract.
use Rattle.table_write.proofs.WriteLaws.{sealed_is}
use Rattle.table_write.proofs.table_write.seal_block.Goals as goal

pub returns : goal.returns
returns c = let a = c.args in sealed_is a.out.now a.at a.block.now a.restarts.now _ c.size_estimate-size.ensures c.finish.ensures.left c.put_trailer.ensures.left

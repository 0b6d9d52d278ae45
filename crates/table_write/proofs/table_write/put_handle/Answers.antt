-- `table_write::table_write::put_handle` meets its contract.
use Rattle.table_write.proofs.PartLaws.{handle_put}
use Rattle.table_write.proofs.table_write.put_handle.Goals as goal

pub returns : goal.returns
returns c = handle_put c.args.handle c.encode_to.ensures c.unwrap_or.ensures c.requires

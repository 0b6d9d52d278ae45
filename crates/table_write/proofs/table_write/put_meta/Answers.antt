-- `table_write::table_write::put_meta` meets its contract.
use Rattle.bloom.specs.Choice.{choice_of}
use Rattle.table_write.proofs.PartLaws.{meta_framed}
use Rattle.table_write.proofs.table_write.put_meta.Goals as goal

pub returns : goal.returns
returns c = meta_framed (choice_of c.args.filter) c.args.handle c.meta_name.ensures c.put_handle-n.ensures.1.1 c.put_one.ensures

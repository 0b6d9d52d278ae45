-- `table_write::table_write::put_filter` meets its contract.
use Rattle.table_write.proofs.PartLaws.{framed_is}
use Rattle.table_write.proofs.table_write.put_filter.Goals as goal

pub returns : goal.returns
returns c = λ e. framed_is e c.finish.ensures.left c.put_trailer.ensures.left

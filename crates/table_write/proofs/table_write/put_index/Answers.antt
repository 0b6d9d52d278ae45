-- `table_write::table_write::put_index` meets its contract.
use Rattle.table_write.proofs.PartLaws.{index_framed}
use Rattle.table_write.proofs.table_write.put_index.Goals as goal

pub returns : goal.returns
returns c = record { wrote = λ i ps s. index_framed c.args.at c.args.out.now s c.requires.0 c.put_bytes.ensures.left c.seal_block.ensures }

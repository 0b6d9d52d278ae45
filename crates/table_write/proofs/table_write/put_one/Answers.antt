-- `table_write::table_write::put_one` meets its contract.
use Rattle.table_write.proofs.PartLaws.{one_framed}
use Rattle.table_write.proofs.table_write.put_one.Goals as goal

pub returns : goal.returns
returns c = let a = c.args in λ l m k v. one_framed a.interval a.at a.out.now a.name.now a.value.now l m k v (rw c.new-block.ensures at c.add.ensures) c.seal_block.ensures

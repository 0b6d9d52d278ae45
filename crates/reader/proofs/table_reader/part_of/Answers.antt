-- `reader::table_reader::part_of` meets its contract.
use Rattle.codec.proofs.BytesLaws.{part_between}
use Rattle.reader.proofs.CallLaws.{part_past, part_rest}
use Rattle.reader.proofs.table_reader.part_of.Goals as goal

pub returns-then-n-from : goal.returns-then-n-from
returns-then-n-from c = part_past _ _ _ c.if-n-from.true

pub returns-then-n-from-2 : goal.returns-then-n-from-2
returns-then-n-from-2 c = part_rest _ _ _ c.if-n-from-2.true

pub returns : goal.returns
returns c = part_between _ _ _

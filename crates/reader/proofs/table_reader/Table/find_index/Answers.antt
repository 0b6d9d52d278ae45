-- `reader::table_reader::Table::find_index` meets its contract.
use native.Mathlib.Omega.{arith}
use Rattle.reader.proofs.HitLaws.{picks_asked, said_inside}
use Rattle.reader.proofs.LocateLaws.{index_sees}
use Rattle.reader.proofs.CallLaws.{indexed}
use Rattle.reader.proofs.table_reader.Table.find_index.Goals as goal

pub locate-requires : goal.locate-requires
locate-requires c = said_inside _ c.find_in-found.ensures (omega arith)

pub returns : goal.returns
returns c = index_sees c.args.self.now.bytes.now (indexed c.args.self.now.ends) c.requires (picks_asked c.args.ask) c.part_of-index.ensures c.find_in-found.ensures (omega arith) c.locate.ensures

-- `reader::table_reader::Table::first_after` meets its contract.
use mathlib.Core.Path.{◌∙◌, ap}
use Rattle.std.specs.Prelude.{Ok}
use Rattle.reader.proofs.CallLaws.{indexed}
use Rattle.block_reader.proofs.ExitLaws.{handed_on}
use Rattle.table.specs.Reads.{listed}
use Rattle.reader.proofs.LaterLaws.{later_refused, later_none, later_first}
use Rattle.reader.proofs.table_reader.Table.first_after.Goals as goal

pub find_index-requires : goal.find_index-requires
unfolding listed
find_index-requires c = λ t. tt

pub returns-in_err-next : goal.returns-in_err-next
returns-in_err-next c =
    rw (handed_on _ c.from_residual.ensures.1) (later_refused _ (indexed c.args.self.now.ends) _ c.find_index.ensures c.in_err-next.was)

pub returns-in_default : goal.returns-in_default
returns-in_default c = later_none _ (indexed c.args.self.now.ends) _ c.find_index.ensures (c.in_ok-next.was ∙ ap Ok c.in_default.is)

pub returns : goal.returns
returns c = later_first _ (indexed c.args.self.now.ends) _ c.find_index.ensures (c.in_ok-next.was ∙ ap Ok c.in-Some.is) c.find_block.ensures

-- `reader::table_reader::Table::open` meets its contract.
use mathlib.Core.Path.{sym, ◌∙◌}
use Rattle.block_reader.proofs.ExitLaws.{handed_on}
use Rattle.reader.proofs.CallLaws.{footer_stands, footer_unread}
use Rattle.reader.proofs.table_reader.Table.open.Goals as goal

pub returns-in_err-footer : goal.returns-in_err-footer
returns-in_err-footer c =
    rw (handed_on _ c.from_residual.ensures.1) (footer_unread _ (sym c.decode.ensures ∙ c.in_err-footer.was))

pub invariant_of-result : goal.invariant_of-result
invariant_of-result c = record { ends = footer_stands _ (sym c.decode.ensures ∙ c.in_ok-footer.was) }

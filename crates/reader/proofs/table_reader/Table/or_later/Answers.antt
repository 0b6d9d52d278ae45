-- `reader::table_reader::Table::or_later` meets its contract.
use mathlib.Core.Path.{◌∙◌, ap}
use Rattle.std.specs.Prelude.{Ok}
use Rattle.block_reader.proofs.ExitLaws.{handed_on}
use Rattle.reader.proofs.CallLaws.{or_entry, or_refused, or_then_lem}
use Rattle.reader.proofs.table_reader.Table.or_later.Goals as goal

pub returns-in_err-here : goal.returns-in_err-here
returns-in_err-here c = λ a shown holds inside.
    rw (handed_on _ c.from_residual.ensures.1) (or_refused _ _ _ c.in_err-here.was a shown holds inside)

pub returns-in_default : goal.returns-in_default
returns-in_default c = λ a shown holds inside. or_then_lem _ _ _ (c.in_ok-here.was ∙ ap Ok c.in_default.is) c.first_after.ensures a shown

pub returns : goal.returns
returns c = or_entry _ _ _ (c.in_ok-here.was ∙ ap Ok c.in-Some.is)

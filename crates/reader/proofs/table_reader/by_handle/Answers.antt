-- `reader::table_reader::by_handle` meets its contract.
use mathlib.Core.Path.{sym, ◌∙◌}
use Rattle.block_reader.proofs.ExitLaws.{none_exit}
use Rattle.reader.proofs.LocateLaws.{not_located, located, located_out}
use Rattle.reader.proofs.table_reader.by_handle.Goals as goal

pub returns-in_err-handle : goal.returns-in_err-handle
returns-in_err-handle c = none_exit c.one_handle.result c.from_residual.ensures.1 c.in_err-handle.ensures.value ∙ not_located _ _ _ (sym c.one_handle.ensures ∙ c.in_err-handle.ensures.ok_part)

pub returns-then-not-placed : goal.returns-then-not-placed
returns-then-not-placed c = located_out _ _ _ (sym c.one_handle.ensures ∙ c.in_ok-handle.ensures.ok_part) (sym c.placed.ensures ∙ c.if-not-placed.true)

pub returns : goal.returns
returns c = located _ _ _ (sym c.one_handle.ensures ∙ c.in_ok-handle.ensures.ok_part) (sym c.placed.ensures ∙ c.if-not-placed.false)

-- `full_check::check::data_at` meets its contract.
use mathlib.Core.Path.{sym, ◌∙◌}
use Rattle.block_reader.proofs.ExitLaws.{handed_on}
use Rattle.std.specs.Option.{option_copied}
use Rattle.full_check.specs.Steps.{edge_of}
use Rattle.full_check.proofs.BlockLaws.{then_refused, then_judged}
use Rattle.full_check.proofs.DataLaws.{data_stands}
use Rattle.full_check.proofs.check.data_at.Goals as goal

pub returns-in_err-s : goal.returns-in_err-s
returns-in_err-s c =
    rw (handed_on _ c.from_residual.ensures.1) (sym (data_stands _ _ _ _ _) ∙ then_refused _ c.in_err-s.ensures)

pub returns : goal.returns
returns c =
    let s = c.in_ok-s.ensures in
    let before = edge_of (option_copied c.args.before) in
    rw (sym (data_stands c.args.table.now c.args.filter.now before c.args.bound.now c.args.handle)) (then_judged _ _ _ s.1 (rw s.2 at c.data_in.ensures))

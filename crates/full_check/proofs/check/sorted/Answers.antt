-- `full_check::check::sorted` meets its contract.
use mathlib.Core.Path.{◌∙◌}
use Rattle.block_reader.proofs.ExitLaws.{handed_on}
use Rattle.full_check.proofs.BlockLaws.{sorted_unsealed, sorted_sealed}
use Rattle.full_check.proofs.check.sorted.Goals as goal

pub returns-in_err-s : goal.returns-in_err-s
returns-in_err-s c =
    rw (handed_on _ c.from_residual.ensures.1) (sorted_unsealed _ _ _ c.in_err-s.ensures)

pub returns-in_err-sorted_in : goal.returns-in_err-sorted_in
returns-in_err-sorted_in c =
    let s = c.in_ok-s.ensures in
    rw (handed_on _ c.from_residual-in_err-sorted_in.ensures.1) (sorted_sealed _ _ _ s.1 s.2 ∙ c.in_err-sorted_in.ensures)

pub returns : goal.returns
returns c =
    let s = c.in_ok-s.ensures in
    let j = c.in_ok-sorted_in.ensures in
    (j.0, sorted_sealed _ _ _ s.1 s.2 ∙ j.1, j.2)

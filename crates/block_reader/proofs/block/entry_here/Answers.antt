-- `block_reader::block::entry_here` meets its contract.
use mathlib.Core.Path.{ap}
use native.Mathlib.Omega.{arith}
use Rattle.blocks.specs.Search.{first_in}
use Rattle.block_reader.proofs.WalkLaws.{read_end, no_read, taken_first}
use Rattle.block_reader.proofs.ExitLaws.{none_exit}
use Rattle.block_reader.proofs.FoundLaws.{told_none, told_bad, told_taken}
use Rattle.block_reader.proofs.block.entry_here.Goals as goal

pub returns-then-at-d : goal.returns-then-at-d
unfolding first_in
returns-then-at-d c = told_none _ _ _ first_in _ (λ es read. ap first_in (read_end _ _ _ read c.if-at-d.true))

pub returns-in_err-read : goal.returns-in_err-read
returns-in_err-read c =
    rw (none_exit c.read.result c.from_residual.ensures.1 c.in_err-read.ensures.value)
    (told_bad _ _ _ first_in _ (no_read _ _ _ (omega (arith, c.requires, c.if-at-d.false)) (rw c.in_err-read.ensures.ok_part at c.read.ensures).0))

pub returns : goal.returns
unfolding first_in
returns c =
    let t = rw c.in_ok-read.ensures.ok_part at c.read.ensures in
    told_taken _ _ _ first_in _ t c.as_slice.ensures (λ es read. ap first_in (taken_first t es read).is) c.hand.ensures

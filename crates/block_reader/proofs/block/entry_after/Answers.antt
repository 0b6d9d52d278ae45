-- `block_reader::block::entry_after` meets its contract.
use Rattle.block_reader.specs.Said.{next_in}
use Rattle.block_reader.proofs.WalkLaws.{no_read}
use Rattle.block_reader.proofs.ExitLaws.{none_exit}
use Rattle.block_reader.proofs.FoundLaws.{told_bad}
use Rattle.block_reader.proofs.SeekLaws.{told_next}
use Rattle.block_reader.proofs.block.entry_after.Goals as goal

pub returns-in_err-read : goal.returns-in_err-read
returns-in_err-read c =
    rw (none_exit c.read.result c.from_residual.ensures.1 c.in_err-read.ensures.value)
    (told_bad _ _ _ (next_in c.args.at) _ (no_read _ _ _ c.requires (rw c.in_err-read.ensures.ok_part at c.read.ensures).0))

pub returns : goal.returns
returns c = told_next (rw c.in_ok-read.ensures.ok_part at c.read.ensures) c.entry_here.ensures

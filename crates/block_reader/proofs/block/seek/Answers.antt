-- `block_reader::block::seek` meets its contract.
use native.Mathlib.Omega.{arith}
use lib.ListN.{take}
use Rattle.blocks.specs.Search.{seek_in, in_order}
use Rattle.block_reader.specs.Steps.{Laid}
use Rattle.block_reader.proofs.LayoutLaws.{entries_size}
use Rattle.block_reader.proofs.ExitLaws.{none_exit}
use Rattle.block_reader.proofs.FoundLaws.{said_from}
use Rattle.block_reader.proofs.SeekLaws.{said_bad}
use Rattle.block_reader.proofs.block.seek.Goals as goal

pub returns-in_err-block : goal.returns-in_err-block
returns-in_err-block c =
    rw (none_exit c.new.result c.from_residual.ensures.1 c.in_err-block.ensures.value)
    (said_bad _ (seek_in _) in_order _ (rw c.in_err-block.ensures.ok_part at c.new.ensures))

pub scan-requires : goal.scan-requires
scan-requires c = rw c.entries.ensures c.seek_restart-from.ensures.within

pub returns : goal.returns
returns c =
    let b = c.in_ok-block.block in
    let same = rw c.in_ok-block.ensures.ok_part at c.new.ensures in
    let l : Laid c.args.s.now b.end b.count = rw same at b.laid in
    said_from c.args.s.now (take b.end c.args.s.now) (seek_in _) in_order _ _ (omega (arith, entries_size c.args.s.now l, l.fits))
    (rw same at c.seek_restart-from.ensures) (rw (c.entries.ensures, same) at c.scan.ensures)

-- `block_reader::block::first` meets its contract.
use native.Mathlib.Omega.{arith}
use lib.ListN.{take}
use Rattle.blocks.specs.Search.{first_in, any_order}
use Rattle.block_reader.specs.Steps.{Laid}
use Rattle.block_reader.proofs.LayoutLaws.{entries_size}
use Rattle.block_reader.proofs.ExitLaws.{none_exit}
use Rattle.block_reader.proofs.FoundLaws.{said_from}
use Rattle.block_reader.proofs.SeekLaws.{said_bad, from_start}
use Rattle.block_reader.proofs.block.first.Goals as goal

pub returns-in_err-block : goal.returns-in_err-block
returns-in_err-block c =
    rw (none_exit c.new.result c.from_residual.ensures.1 c.in_err-block.ensures.value)
    (said_bad _ first_in any_order _ (rw c.in_err-block.ensures.ok_part at c.new.ensures))

pub returns : goal.returns
returns c =
    let b = c.in_ok-block.block in
    let same = rw c.in_ok-block.ensures.ok_part at c.new.ensures in
    let l : Laid c.args.s.now b.end b.count = rw same at b.laid in
    said_from c.args.s.now (take b.end c.args.s.now) first_in any_order 0 _ (omega (arith, entries_size c.args.s.now l, l.fits)) (from_start c.args.s.now l first_in any_order)
    (rw (c.entries.ensures, same, c.new-before.ensures) at c.entry_here.ensures)

-- `block_reader::block::by_place` meets its contract.
use native.Mathlib.Omega.{arith}
use lib.ListN.{take}
use Rattle.blocks.specs.Search.{any_order}
use Rattle.block_reader.specs.Said.{place_in}
use Rattle.block_reader.specs.Steps.{Laid}
use Rattle.block_reader.proofs.LayoutLaws.{entries_size}
use Rattle.block_reader.proofs.ExitLaws.{none_exit}
use Rattle.block_reader.proofs.FoundLaws.{said_from}
use Rattle.block_reader.proofs.SeekLaws.{said_bad, no_place_end}
use Rattle.block_reader.proofs.block.by_place.Goals as goal

pub returns-in_err-block : goal.returns-in_err-block
returns-in_err-block c =
    rw (none_exit c.new.result c.from_residual.ensures.1 c.in_err-block.ensures.value)
    (said_bad _ (place_in c.args.which c.args.at) any_order _ (rw c.in_err-block.ensures.ok_part at c.new.ensures))

pub returns-then-block-at : goal.returns-then-block-at
returns-then-block-at c =
    let b = c.in_ok-block.block in
    let same = rw c.in_ok-block.ensures.ok_part at c.new.ensures in
    let l : Laid c.args.s.now b.end b.count = rw same at b.laid in
    no_place_end _ l _ _ _ c.if-block-at.true

pub walk-requires : goal.walk-requires
walk-requires c =
    let b = c.in_ok-block.block in
    rw c.entries.ensures ((c.restart_before-from.ensures c.args.which).within, omega (arith, entries_size b.bytes.now b.laid, c.if-block-at.false))

pub returns : goal.returns
returns c =
    let b = c.in_ok-block.block in
    let same = rw c.in_ok-block.ensures.ok_part at c.new.ensures in
    let l : Laid c.args.s.now b.end b.count = rw same at b.laid in
    said_from c.args.s.now (take b.end c.args.s.now) (place_in c.args.which c.args.at) any_order _ _ (omega (arith, entries_size c.args.s.now l, l.fits))
    (rw same at (c.restart_before-from.ensures c.args.which)) (rw (c.entries.ensures, same) at c.walk.ensures)

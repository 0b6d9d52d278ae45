-- `block_reader::block::Block::filled` meets its contract. The loop's invariant: what is left of the check, behind the key and from the next restart on, is
-- the whole of it.
use mathlib.Core.Path.{refl, sym, ap, ◌∙◌}
use native.Mathlib.Omega.{arith}
use lib.Dec.{eqb}
use lib.ListN.{take, drop}
use Rattle.codec.specs.Bytes.{numbers}
use Rattle.block_reader.specs.Said.{kind_of}
use Rattle.block_reader.proofs.LayoutLaws.{entries_size, numbers_length}
use Rattle.block_reader.proofs.FilledLaws.{pass_end}
use Rattle.block_reader.proofs.block.Block.filled.Goals as goal

pub loop-at-init : goal.loop-at-init
loop-at-init c = rw c.new-key.ensures (refl, omega arith, omega arith)

pub returns-in_default : goal.returns-in_default
returns-in_default c = sym (c.loop-at.invariant.0 ∙ c.in_default.ensures)

pub loop-at-smaller : goal.loop-at-smaller
loop-at-smaller c = omega (arith, c.in-Some.ensures)

pub loop-at-preserved : goal.loop-at-preserved
loop-at-preserved c =
    let b = c.args.self.now in
    let on = c.in-Some.ensures in
    (c.loop-at.invariant.0 ∙ on.same, omega (arith, on.within, entries_size b.bytes.now b.laid), omega (arith, on.marks, numbers_length b.count (drop b.end b.bytes.now)))

pub returns : goal.returns
returns c =
    let b = c.args.self.now in
    let l = c.loop-at in
    let n = numbers_length b.count (drop b.end b.bytes.now) in
    let size = entries_size b.bytes.now b.laid in
    ap (eqb l.mark) (sym n) ∙ pass_end (kind_of c.args.kind) (take b.end b.bytes.now) (numbers b.count (drop b.end b.bytes.now)) l.at l.key l.mark (omega (arith, size)) (omega (arith, size, c.loop-at-test.false)) (omega (arith, n)) ∙ sym l.invariant.0

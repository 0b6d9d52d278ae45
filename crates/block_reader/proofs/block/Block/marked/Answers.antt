-- `block_reader::block::Block::marked` meets its contract.
use mathlib.Core.Path.{sym, ap, ◌∙◌}
use lib.Dec.{eqb}
use borrow.Author.Tests.{le-ltb}
use Rattle.block_reader.proofs.LayoutLaws.{marks_here, marks_over}
use Rattle.block_reader.proofs.block.Block.marked.Goals as goal

pub returns-then-j-self : goal.returns-then-j-self
returns-then-j-self c = let a = c.args in
    let b = a.self.now in
    ap (λ r. eqb r a.at) c.restart.ensures ∙ sym (marks_here b.bytes.now b.end b.count a.j a.at c.if-j-self.true)

pub returns-else-j-self : goal.returns-else-j-self
returns-else-j-self c = let a = c.args in
    let b = a.self.now in
    le-ltb _ _ c.if-j-self.false ∙ sym (marks_over b.bytes.now b.end b.count a.j a.at c.if-j-self.false)

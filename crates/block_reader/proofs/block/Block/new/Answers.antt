-- `block_reader::block::Block::new` meets its contract.
use mathlib.Core.Path.{sym, ◌∙◌}
use Rattle.block_reader.proofs.LayoutLaws.{laid}
use Rattle.block_reader.proofs.block.Block.new.Goals as goal

pub invariant_of-result : goal.invariant_of-result
invariant_of-result c = record { laid = laid _ (sym c.layout.ensures ∙ c.in_ok-end.was) }

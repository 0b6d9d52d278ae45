-- `pieces::block::salevoni_block_check` meets its contract.
use mathlib.Core.Path.{ap, ◌∙◌}
use Rattle.blocks.specs.Formed.{is_formed}
use Rattle.block_reader.specs.Said.{kind_of}
use Rattle.block_reader.specs.declared.block.Kind.{Kind}
use Rattle.pieces.proofs.block.salevoni_block_check.Goals as goal

pub returns : goal.returns
returns c = let s = c.args in
    record {
      answer = _;
      shown = c.number_if.ensures;
      is = c.is_formed.ensures ∙ ap (λ (k : Kind). is_formed (kind_of k) s.block.now) c.kind_in.ensures;
    }

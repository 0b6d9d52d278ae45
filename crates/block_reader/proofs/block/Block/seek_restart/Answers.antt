-- `block_reader::block::Block::seek_restart` meets its contract.
use lib.ListN.{take}
use mathlib.Core.Logic.{inl, inr}
use borrow.Author.Rules.{rules}
use Rattle.block_reader.specs.Steps.{BelowAt}
use Rattle.keys.specs.Order.{Point}
use Rattle.blocks.specs.Search.{seek_in, in_order}
use Rattle.block_reader.proofs.SeekLaws.{from_start, from_below}
use Rattle.block_reader.proofs.block.Block.seek_restart.Goals as goal

pub returns : goal.returns
returns c =
    let b = c.args.self.now in
    let p : Point = record { word = c.args.word.now; edition = c.args.sequence } in
    elim c.last_restart.ensures [
      | inl e ↦ rw e (from_start b.bytes.now b.laid (seek_in p) in_order)
      | inr x ↦
          let passed = x.4 in
          let below : BelowAt (take b.end b.bytes.now) p c.last_restart.result = search rules in
          from_below b.bytes.now b.laid x.0 x.1 x.2 p x.3 below
    ]

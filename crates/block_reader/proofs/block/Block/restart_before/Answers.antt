-- `block_reader::block::Block::restart_before` meets its contract.
use Prim.Native.Nat.{◌≤◌}
use mathlib.Core.Logic.{inl, inr}
use borrow.Author.Rules.{rules}
use native.Mathlib.Omega.{arith}
use Rattle.blocks.specs.Search.{any_order}
use Rattle.block_reader.specs.Said.{place_in}
use Rattle.block_reader.proofs.LayoutLaws.{entries_size}
use Rattle.block_reader.proofs.SeekLaws.{from_start, from_before}
use Rattle.block_reader.proofs.block.Block.restart_before.Goals as goal

pub returns : goal.returns
returns c = λ which.
    let b = c.args.self.now in
    elim c.last_restart.ensures [
      | inl e ↦ rw e (from_start b.bytes.now b.laid (place_in which c.args.at) any_order)
      | inr x ↦
          let passed = x.4 in
          let under : c.last_restart.result ≤ c.args.at = search rules in
          from_before b.bytes.now b.laid x.0 x.1 x.2 x.3 (omega (arith, under, entries_size b.bytes.now b.laid, c.requires)) which c.args.at under
    ]

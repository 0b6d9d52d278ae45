-- `block_reader::block::Block::is_below` meets its contract.
use Prim.Native.Nat.{ℕ}
use mathlib.Core.Path.{sym}
use mathlib.Core.List.{List}
use native.Mathlib.Omega.{arith}
use Rattle.std.proofs.lemmas.Bool.{OnTrue_from}
use Rattle.keys.specs.Order.{Point, is_less, point_of, by_point}
use Rattle.keys.proofs.AnswerLaws.{less_told}
use lib.ListN.{take}
use Rattle.block_reader.specs.Steps.{BelowAt}
use Rattle.block_reader.proofs.LayoutLaws.{entries_size}
use Rattle.block_reader.proofs.WalkLaws.{said_of}
use Rattle.block_reader.proofs.block.Block.is_below.Goals as goal

pub returns : goal.returns
returns c =
    let b = c.args.self.now in
    let f = rw c.entries.ensures at c.in-Some.ensures in
    let d = take b.end b.bytes.now in
    let p : Point = record { word = c.args.word.now; edition = c.args.sequence } in
    OnTrue_from c.is_lt.result (BelowAt d p c.args.r) (λ below.
    record {
      inside = omega (arith, entries_size b.bytes.now b.laid, c.if-self-r.false);
      here = f.here;
      reads = f.reads;
      below =
          said_of (λ (q : List ℕ). is_less (by_point (point_of q) p))
          (sym f.is) (less_told _ c.is_lt.ensures c.cmp_target.ensures) below;
    })

-- `block_reader::block::Block::filled` meets its contract. The loop's invariant: what is left of the check, behind the key and from the next restart on, is
-- the whole of it.
use Prim.Native.Nat.{◌≤◌, ◌-◌}
use mathlib.Core.Path.{◌≡◌}
use mathlib.Core.List.{[]}
use lib.ListN.{take, drop}
use Rattle.codec.specs.Bytes.{numbers}
use Rattle.block_reader.specs.Said.{kind_of}
use Rattle.block_reader.specs.Steps.{filled_from}
use Rattle.block_reader.proofs.block.Block.filled.Given as goal

abbrev pub invariant-loop-at : goal.invariant-loop-at
invariant-loop-at l =
    let b = l.self in
    let d = take b.end b.bytes.now in
    let rs = numbers b.count (drop b.end b.bytes.now) in
    (filled_from (kind_of l.kind) d 0 [] rs ≡ filled_from (kind_of l.kind) d l.at l.key (drop l.mark rs)) × (l.at ≤ b.end) × (l.mark ≤ b.count)

abbrev pub decreases-loop-at : goal.decreases-loop-at
decreases-loop-at l = l.self.end - l.at

-- `block_builder::block_builder::BlockBuilder::counts` meets its contract.
use mathlib.Core.Path.{ap, ◌∙◌}
use mathlib.Core.List.{List}
use Prim.Native.Nat.{ℕ}
use lib.ListN.{take}
use Rattle.blocks.specs.Count.{BlockCount}
use Rattle.block_builder.specs.Builder.{count_in}
use Rattle.block_builder.proofs.BuilderCode.{front}
use Rattle.block_builder.proofs.block_builder.BlockBuilder.counts.Goals as goal

pub returns-clause-counts : goal.returns-clause-counts
unfolding count_in
returns-clause-counts c =
    let b = c.args.self.now in
    let k : List ℕ → BlockCount = λ l. record { bytes = b.bytes; restarts = b.restarts; since = b.since; last = l } in
    ap k (ap (λ (n : ℕ). take n b.last) c.min.ensures ∙ front b.last b.len)

-- `builder::table_builder::SmallBuilder::is_cut` meets its contract.
use mathlib.Core.Path.{ap}
use Prim.Native.Nat.{ℕ}
use lib.Dec.{ltb}
use Rattle.builder.specs.Steps.{cut_of}
use Rattle.builder.proofs.SizeLaws.{size_exact}
use Rattle.builder.proofs.table_builder.SmallBuilder.is_cut.Goals as goal

pub returns : goal.returns
unfolding cut_of
returns c = ap (λ (n : ℕ). ltb c.args.self.now.state.now.options.block_size n) (size_exact c.args.self.now.state.now c.args.self.now.small c.size_estimate.ensures)

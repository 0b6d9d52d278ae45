-- `builder::table_builder::Runs::lengths` meets its contract.
use mathlib.Core.Path.{refl}
use Rattle.builder.specs.State.{lengths_of}
use Rattle.builder.proofs.table_builder.Runs.lengths.Goals as goal

pub returns : goal.returns
unfolding lengths_of
returns c = refl

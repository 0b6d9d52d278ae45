-- `table_write::table_write::meta_name` meets its contract.
use mathlib.Core.Path.{sym, ap}
use Prim.Native.Nat.{ℕ}
use Rattle.std.specs.Prelude.{Option}
use Rattle.blocks.specs.Formed.{bloom_name}
use Rattle.bloom.specs.Choice.{choice_of}
use Rattle.table.specs.Build.{meta_name}
use Rattle.table_write.proofs.table_write.meta_name.Goals as goal

pub returns-in-None : goal.returns-in-None
unfolding meta_name choice_of
returns-in-None c = ap (λ (f : Option ℕ). meta_name (choice_of f)) (sym c.in-None.is)

pub returns-in-Some : goal.returns-in-Some
unfolding meta_name bloom_name choice_of
returns-in-Some c = ap (λ (f : Option ℕ). meta_name (choice_of f)) (sym c.in-Some.is)

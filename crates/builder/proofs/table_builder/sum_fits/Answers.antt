-- `builder::table_builder::sum_fits` meets its contract.
use Prim.Native.Nat.{◌+◌}
use mathlib.Core.Path.{sym}
use native.Mathlib.Omega.{arith}
use borrow.Author.Tests.{lt-leb}
use Rattle.builder.proofs.NumberLaws.{sum_leb}
use Rattle.builder.proofs.table_builder.sum_fits.Goals as goal

pub returns-then-n-a : goal.returns-then-n-a
returns-then-n-a c = let a = c.args in sym (lt-leb (a.a + a.b) a.n (omega arith))

pub returns : goal.returns
returns c = let a = c.args in sum_leb a.a a.b a.n (omega arith)

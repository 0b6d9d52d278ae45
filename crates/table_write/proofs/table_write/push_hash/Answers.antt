-- `table_write::table_write::push_hash` meets its contract.
use native.Mathlib.Omega.{arith}
use Rattle.table_write.proofs.WriteLaws.{pushed, not_pushed}
use Rattle.table_write.proofs.table_write.push_hash.Goals as goal

pub returns-then-n-hashes : goal.returns-then-n-hashes
returns-then-n-hashes c = let a = c.args in pushed a.hashes.now a.n a.x (omega arith)

pub returns-else-n-hashes : goal.returns-else-n-hashes
returns-else-n-hashes c = let a = c.args in not_pushed a.hashes.now a.n a.x (omega arith)

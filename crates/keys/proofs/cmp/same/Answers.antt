-- `keys::cmp::same` meets its contract.
use mathlib.Core.Path.{◌∙◌}
use borrow.Author.Tests.{ne_eqb}
use Rattle.keys.proofs.CompareLaws.{lengths_apart, same_common}
use Rattle.keys.proofs.cmp.same.Goals as goal

pub returns-then-a-b : goal.returns-then-a-b
returns-then-a-b c = same_common _ _ c.if-a-b.true c.common_len.ensures

pub returns-else-a-b : goal.returns-else-a-b
returns-else-a-b c = ne_eqb _ _ c.if-a-b.false ∙ lengths_apart _ _ c.if-a-b.false

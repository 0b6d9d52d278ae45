-- `table_write::table_write::more_filters` meets its contract.
use mathlib.Core.Path.{refl, sym, ◌∙◌}
use mathlib.Core.Bool.{false≢true}
use Rattle.std.specs.Prelude.{Err}
use Rattle.table_write.proofs.table_write.more_filters.Goals as goal

pub returns-else-more : goal.returns-else-more
returns-else-more c = record { said = Err (record {}); done = λ t. absurd (false≢true (sym c.if-more.false ∙ t)); kept = λ t. (refl, refl) }

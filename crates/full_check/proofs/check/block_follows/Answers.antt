-- `full_check::check::block_follows` meets its contract.
use mathlib.Core.Path.{sym, ap, ◌∙◌}
use Rattle.std.specs.Option.{option_copied}
use Rattle.table.specs.Table.{follows}
use Rattle.full_check.specs.Steps.{edge_of}
use Rattle.full_check.proofs.KeyLaws.{first_none, first_some}
use Rattle.full_check.proofs.check.block_follows.Goals as goal

pub returns-then-is_some : goal.returns-then-is_some
returns-then-is_some c =
    let before = edge_of (option_copied c.args.before) in
    λ es read. c.key_follows.ensures ∙ ap (follows before) c.as_slice.ensures ∙ first_some before c.args.d.now es read c.read.result c.read.new.self (rw c.new-key.ensures at c.read.ensures) (sym c.is_some.ensures ∙ c.if-is_some.true)

pub returns-else-is_some : goal.returns-else-is_some
returns-else-is_some c =
    let before = edge_of (option_copied c.args.before) in
    λ es read. c.if-is_some.false ∙ first_none before c.args.d.now es read c.read.result c.read.new.self (rw c.new-key.ensures at c.read.ensures) (sym c.is_some.ensures ∙ c.if-is_some.false)

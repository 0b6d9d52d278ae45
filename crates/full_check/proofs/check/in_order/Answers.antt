-- `full_check::check::in_order` meets its contract.
use mathlib.Core.Path.{◌≡◌, sym, ◌∙◌}
use mathlib.Core.Bool.{true, not}
use mathlib.Core.List.{List, []}
use mathlib.Core.Option.{some}
use Rattle.std.specs.Option.{option_copied}
use Rattle.blocks.specs.Block.{Entry, pairs_of}
use Rattle.block_reader.specs.Steps.{read_from}
use Rattle.table.specs.Table.{first_follows}
use Rattle.full_check.specs.Steps.{edge_of, ordered}
use Rattle.full_check.proofs.KeyLaws.{tested, ordered_first, ordered_falls, ordered_last}
use Rattle.full_check.proofs.check.in_order.Goals as goal
use Rattle.full_check.proofs.check.in_order.Goals.{After-keys_rise}

follows : (c : After-keys_rise) (es : List Entry) → read_from c.args.d.now 0 [] ≡ some es → first_follows (edge_of (option_copied c.args.before)) (pairs_of es) ≡ true
follows c es read = sym (c.block_follows.ensures es read) ∙ c.if-not-block_follows.false

pub returns-then-not-block_follows : goal.returns-then-not-block_follows
returns-then-not-block_follows c = λ es read. ordered_first _ _ _ (sym (c.block_follows.ensures es read) ∙ c.if-not-block_follows.true)

pub returns-then-not-keys_rise : goal.returns-then-not-keys_rise
returns-then-not-keys_rise c = λ es read.
    ordered_falls _ _ _ (follows (goal.at.returns-then-not-keys_rise c).After-keys_rise es read) ((rw c.if-not-keys_rise.true at c.keys_rise.ensures) es read)

pub returns : goal.returns
returns c = tested (ordered (edge_of (option_copied c.args.before)) c.args.bound.now) c.args.d.now (not c.key_below.result) (λ es read.
    let u = (rw c.if-not-keys_rise.false at c.keys_rise.ensures) es read in
    (ordered_last _ _ _ (follows (goal.at.returns c).After-keys_rise es read) u.0 (u.1 ∙ sym c.as_slice.ensures) c.key_below.result (sym c.key_below.ensures), u.1))

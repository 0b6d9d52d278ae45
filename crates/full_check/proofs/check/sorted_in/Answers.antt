-- `full_check::check::sorted_in` meets its contract.
use mathlib.Core.Path.{sym, ◌∙◌}
use Rattle.block_reader.specs.Said.{kind_of}
use Rattle.full_check.proofs.BlockLaws.{Formed, formed, sorted_malformed, sorted_falls, sorted_rises}
use Rattle.full_check.proofs.check.sorted_in.Goals as goal
use Rattle.full_check.proofs.check.sorted_in.Goals.{After-keys_rise}

found : (c : After-keys_rise) → Formed (kind_of c.args.kind) c.args.s.now
found c = formed (kind_of c.args.kind) c.args.s.now (sym c.is_formed.ensures ∙ c.if-not-is_formed.false)

pub returns-then-not-is_formed : goal.returns-then-not-is_formed
returns-then-not-is_formed c = sorted_malformed _ _ (sym c.is_formed.ensures ∙ c.if-not-is_formed.true)

pub returns-then-keys_rise : goal.returns-then-keys_rise
returns-then-keys_rise c = let f = found (goal.at.returns-then-keys_rise c).After-keys_rise in
    (f.entries, sorted_rises (kind_of c.args.kind) c.args.s.now f.is ((rw c.if-keys_rise.true at c.keys_rise.ensures) f.entries (c.entries.ensures f.entries f.reads)).0, f.reads)

pub returns-else-keys_rise : goal.returns-else-keys_rise
returns-else-keys_rise c = let f = found (goal.at.returns-else-keys_rise c).After-keys_rise in
    sorted_falls (kind_of c.args.kind) c.args.s.now f.is ((rw c.if-keys_rise.false at c.keys_rise.ensures) f.entries (c.entries.ensures f.entries f.reads))

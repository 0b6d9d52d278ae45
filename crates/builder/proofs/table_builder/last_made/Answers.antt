-- `builder::table_builder::last_made` meets its contract.
use mathlib.Core.Path.{sym, ◌∙◌}
use Rattle.filters.proofs.FilterCountLaws.{none_waits, some_wait}
use Rattle.bloom.specs.Choice.{choice_of}
use Rattle.builder.specs.Steps.{filter_count_in}
use Rattle.builder.proofs.table_builder.last_made.Goals as goal

pub returns-then-f-eq0 : goal.returns-then-f-eq0
unfolding filter_count_in
returns-then-f-eq0 c = let a = c.args in sym (none_waits (choice_of a.choice) (filter_count_in a.f) c.if-f-eq0.true)

pub returns : goal.returns
unfolding filter_count_in
returns c = let a = c.args in
    c.made_until.ensures ∙ sym (some_wait (choice_of a.choice) (filter_count_in a.f) c.if-f-eq0.false)

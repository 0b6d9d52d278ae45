-- `builder::table_builder::write_after` meets its contract.
use Rattle.builder.specs.Steps.{open_after}
use Rattle.builder.proofs.table_builder.write_after.Goals as goal

pub returns-then-not-cut : goal.returns-then-not-cut
unfolding open_after
returns-then-not-cut c = rw (c.if-not-cut.true) c.write_entry.ensures

pub returns : goal.returns
unfolding open_after
returns c = rw (c.if-not-cut.false, ← c.new-pending.ensures) c.write_entry-2.ensures

-- `builder::table_builder::begun` meets its contract.
use Rattle.builder.specs.State.{begun}
use Rattle.builder.proofs.table_builder.begun.Goals as goal

pub returns : goal.returns
unfolding begun
returns c = rw c.new-pending.ensures

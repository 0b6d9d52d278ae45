-- `builder::table_builder::end_size` meets its contract.
use Rattle.table.specs.Counts.{end_size}
use Rattle.builder.proofs.table_builder.end_size.Goals as goal

pub returns : goal.returns
unfolding end_size
returns c = rw c.meta_size-meta.ensures.0

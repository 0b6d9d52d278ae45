-- `builder::table_builder::SmallBuilder::closed_sizes` meets its contract.
use Rattle.builder.proofs.SizeLaws.{closed_sizes_are}
use Rattle.builder.proofs.table_builder.SmallBuilder.closed_sizes.Goals as goal

pub returns : goal.returns
returns c = closed_sizes_are c.args.self.now.state.now c.args.self.now.small c.args.key.now c.requires c.close-c.ensures (rw (c.counts.ensures.interval, c.counts.ensures.counts) at c.size_with.ensures)

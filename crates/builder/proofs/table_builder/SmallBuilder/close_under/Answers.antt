-- `builder::table_builder::SmallBuilder::close_under` meets its contract.
use Rattle.builder.proofs.SizeLaws.{closed_is}
use Rattle.builder.proofs.table_builder.SmallBuilder.close_under.Goals as goal

pub returns : goal.returns
returns c = rw c.requires.1 (closed_is c.args.self.now.state.now c.args.self.now.small c.args.key.now c.requires.0 c.close-c.ensures (rw c.requires.1 at c.count.ensures) c.new-next.ensures)

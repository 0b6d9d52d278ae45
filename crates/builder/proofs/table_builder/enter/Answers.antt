-- `builder::table_builder::enter` meets its contract.
use Rattle.builder.proofs.SizeLaws.{entered_is}
use Rattle.builder.proofs.table_builder.enter.Goals as goal

pub returns : goal.returns
returns c = entered_is c.args.next.now c.args.key.now c.args.value_len c.requires c.count.ensures

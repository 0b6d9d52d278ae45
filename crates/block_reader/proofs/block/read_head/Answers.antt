-- `block_reader::block::read_head` meets its contract.
use Rattle.block_reader.proofs.EntryLaws.{short_head}
use Rattle.block_reader.proofs.block.read_head.Goals as goal

pub returns-in-len3-up : goal.returns-in-len3-up
returns-in-len3-up c =
    rw (c.from.ensures, c.from-in-len3-up.ensures, c.from-in-len3-up-2.ensures)
    (short_head c.args.rest.now c.in-len3-up.len_at_least c.if-shared-lt128.true c.if-fresh-lt128.true c.if-value-lt128.true)

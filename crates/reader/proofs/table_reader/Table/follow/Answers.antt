-- `reader::table_reader::Table::follow` meets its contract.
use mathlib.Core.Path.{◌∙◌, ap}
use Rattle.std.specs.Prelude.{Ok}
use Rattle.reader.proofs.CallLaws.{indexed}
use Rattle.block_reader.proofs.ExitLaws.{handed_on}
use Rattle.table.specs.Reads.{listed}
use Rattle.reader.proofs.FollowLaws.{follow_none, follow_refused, follow_block}
use Rattle.reader.proofs.table_reader.Table.follow.Goals as goal

pub find_index-requires : goal.find_index-requires
unfolding listed
find_index-requires c = λ t. tt

pub returns-in_err-block : goal.returns-in_err-block
returns-in_err-block c =
    rw (handed_on _ c.from_residual.ensures.1) (follow_refused _ (indexed c.args.self.now.ends) c.args.place.index c.args.place.entry c.find_index.ensures c.in_err-block.was)

pub returns-in_default : goal.returns-in_default
returns-in_default c = follow_none _ (indexed c.args.self.now.ends) c.args.place.index c.args.place.entry c.find_index.ensures (c.in_ok-block.was ∙ ap Ok c.in_default.is)

pub returns : goal.returns
returns c = let w = c.find_block-next.ensures in
    follow_block _ (indexed c.args.self.now.ends) c.args.place.index c.args.place.entry c.find_index.ensures (c.in_ok-block.was ∙ ap Ok c.in-Some.is) w (c.or_later.ensures w.answer w.shown w.holds w.inside)

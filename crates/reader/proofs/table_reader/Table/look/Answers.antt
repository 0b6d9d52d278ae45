-- `reader::table_reader::Table::look` meets its contract.
use mathlib.Core.Path.{◌∙◌, ap}
use Rattle.std.specs.Prelude.{Ok}
use Rattle.reader.proofs.CallLaws.{indexed}
use Rattle.block_reader.proofs.ExitLaws.{handed_on}
use Rattle.table.specs.Reads.{listed}
use Rattle.reader.proofs.AnswerLaws.{tells_short}
use Rattle.reader.proofs.FindLaws.{seek_refused}
use Rattle.reader.proofs.LookLaws.{look_none, look_unheld, look_denied, look_block}
use Rattle.reader.proofs.table_reader.Table.look.Goals as goal

pub find_index-requires : goal.find_index-requires
unfolding listed
find_index-requires c = λ t. tt

pub of_word-requires : goal.of_word-requires
of_word-requires c = tells_short c.find_block-here.ensures

pub returns-in_err-block : goal.returns-in_err-block
returns-in_err-block c =
    rw (handed_on _ c.from_residual.ensures.1) (seek_refused _ (indexed c.args.self.now.ends) _ c.find_index.ensures c.in_err-block.was (λ never. (λ p. absurd (never p), tt)))

pub returns-in_default : goal.returns-in_default
returns-in_default c = look_none _ (indexed c.args.self.now.ends) _ c.find_index.ensures (c.in_ok-block.was ∙ ap Ok c.in_default.is)

pub returns-in_err-may_hold : goal.returns-in_err-may_hold
returns-in_err-may_hold c =
    rw (handed_on _ c.from_residual-in_err-may_hold.ensures.1) (look_unheld _ (indexed c.args.self.now.ends) _ c.find_index.ensures (c.in_ok-block.was ∙ ap Ok c.in-Some.is) c.may_hold.ensures c.in_err-may_hold.was)

pub returns-then-not-branch : goal.returns-then-not-branch
returns-then-not-branch c = look_denied _ (indexed c.args.self.now.ends) _ c.find_index.ensures (c.in_ok-block.was ∙ ap Ok c.in-Some.is) c.may_hold.ensures (c.in_ok-may_hold.was ∙ ap Ok c.if-not-branch.true)

pub returns : goal.returns
returns c = look_block _ (indexed c.args.self.now.ends) _ c.find_index.ensures (c.in_ok-block.was ∙ ap Ok c.in-Some.is) c.find_block-here.ensures c.of_word.ensures

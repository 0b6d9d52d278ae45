-- `keys::key_types::cmp_target` meets its contract: the words decide, or where they are equal the sequences.
use Rattle.keys.proofs.AnswerLaws.{target_word, target_equal}
use Rattle.keys.proofs.key_types.cmp_target.Goals as goal

pub returns-in-Equal : goal.returns-in-Equal
returns-in-Equal c = let a = c.args in
    target_equal a.key.now a.word.now a.sequence c.user_key.ensures c.cmp.ensures c.in-Equal.is c.tag_of.ensures c.cmp-in-Equal.ensures

pub returns-in_default : goal.returns-in_default
returns-in_default c = let a = c.args in
    target_word a.key.now a.word.now a.sequence c.user_key.ensures c.cmp.ensures c.in_default.not-Equal

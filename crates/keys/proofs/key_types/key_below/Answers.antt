-- `keys::key_types::key_below` meets its contract.
use Rattle.keys.specs.Order.{below}
use Rattle.keys.proofs.AnswerLaws.{less_told}
use Rattle.keys.proofs.key_types.key_below.Goals as goal

pub returns : goal.returns
unfolding below
returns c = less_told _ c.is_lt.ensures c.cmp_internal_key.ensures

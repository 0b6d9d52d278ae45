-- A kind byte gives the kind that it says.
use mathlib.Core.Path.{sym, ap}
use Rattle.keys.specs.Answers.{kind_answer}
use Rattle.keys.proofs.AnswerLaws.{kind_value}
use Rattle.keys.proofs.key_types.ValueTypeFromU8.from.Goals as goal

pub returns-then-kind-eq0 : goal.returns-then-kind-eq0
unfolding kind_answer
returns-then-kind-eq0 c = sym (ap kind_answer c.if-kind-eq0.true)

pub returns-else-kind-eq0 : goal.returns-else-kind-eq0
returns-else-kind-eq0 c = kind_value _ c.if-kind-eq0.false

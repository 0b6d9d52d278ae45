-- `codec::blockhandle::one_handle` meets its contract.
use mathlib.Core.Path.{sym, ◌∙◌}
use Rattle.codec.proofs.VarintCode.{none_there, one_there, more_there}
use Rattle.codec.proofs.blockhandle.one_handle.Goals as goal

pub returns-in_err-read : goal.returns-in_err-read
returns-in_err-read c = c.from_residual.ensures ∙ none_there _ (sym c.decode.ensures ∙ c.in_err-read.was)

pub returns-then-read-s : goal.returns-then-read-s
returns-then-read-s c = one_there _ (sym c.decode.ensures ∙ c.in_ok-read.was) c.if-read-s.true

pub returns-else-read-s : goal.returns-else-read-s
returns-else-read-s c = more_there _ (sym c.decode.ensures ∙ c.in_ok-read.was) c.if-read-s.false

-- `full_check::check::handle_of` meets its contract.
use mathlib.Core.Path.{◌∙◌}
use Rattle.full_check.proofs.KeyLaws.{handle_lem}
use Rattle.full_check.proofs.check.handle_of.Goals as goal

pub returns : goal.returns
returns c = c.unwrap_or.ensures ∙ rw c.one_handle.ensures (handle_lem c.args.value.now)

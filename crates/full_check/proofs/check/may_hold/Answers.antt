-- `full_check::check::may_hold` meets its contract.
use mathlib.Core.Path.{ap, ◌∙◌}
use Rattle.filters.specs.Filter.{hash}
use Rattle.filters.specs.FilterBlock.{may_match}
use Rattle.full_check.proofs.check.may_hold.Goals as goal

pub returns : goal.returns
returns c = c.may_match.ensures ∙ ap (may_match _ _) (c.bloom_hash-h.ensures ∙ ap hash c.user_key.ensures)

-- `keys::cmp::first_low` meets its contract.
use Rattle.std.proofs.Common.{rules}
use Rattle.keys.proofs.PlanLaws.{low_first}
use Rattle.keys.proofs.cmp.first_low.Goals as goal

pub returns : goal.returns
returns c = low_first c.args.key.now c.position.result (search rules)

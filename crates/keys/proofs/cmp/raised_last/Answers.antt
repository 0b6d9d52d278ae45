-- `keys::cmp::raised_last` meets its contract.
use Rattle.std.proofs.Common.{rules}
use Rattle.keys.proofs.PlanLaws.{raises_last}
use Rattle.keys.proofs.cmp.raised_last.Goals as goal

pub returns : goal.returns
returns c = raises_last c.args.a.now c.rposition.result (search rules)

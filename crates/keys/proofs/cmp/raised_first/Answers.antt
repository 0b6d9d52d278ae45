-- `keys::cmp::raised_first` meets its contract.
use Rattle.std.proofs.Common.{rules}
use Rattle.keys.proofs.PlanLaws.{raises_first}
use Rattle.keys.proofs.cmp.raised_first.Goals as goal

pub returns : goal.returns
returns c = let a = c.args in
    raises_first a.a.now a.b.now c.position.result (λ i. (c.type_inv.b i).fits) (search rules)

-- `keys::cmp::shortest` meets its contract.
use mathlib.Core.Path.{sym}
use Rattle.keys.proofs.PlanLaws.{first_planned, longer_planned, last_planned, not_planned}
use Rattle.keys.proofs.cmp.shortest.Goals as goal

pub returns-in-Some : goal.returns-in-Some
returns-in-Some c = first_planned _ _ c.in-Some.ensures

pub returns-in-Some-raised_last : goal.returns-in-Some-raised_last
returns-in-Some-raised_last c = last_planned _ _ c.in_default.ensures c.in-Some-raised_last.ensures (sym c.if-raised_below.ensures)

pub returns-in_default-raised_last : goal.returns-in_default-raised_last
returns-in_default-raised_last c = not_planned _ _ c.in_default.ensures c.in-Some-raised_last.ensures (sym c.if-raised_below.ensures)

pub returns-in_default-raised_last-2 : goal.returns-in_default-raised_last-2
returns-in_default-raised_last-2 c = longer_planned _ _ c.in_default.ensures c.in_default-raised_last.ensures

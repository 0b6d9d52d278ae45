-- `keys::cmp::find_internal_sep` meets its contract.
use Rattle.codec.proofs.PutLaws.{wrote_as}
use Rattle.keys.proofs.PlanLaws.{fits_raised, internal_other, internal_long, internal_short}
use Rattle.keys.proofs.cmp.find_internal_sep.Goals as goal
use Rattle.keys.proofs.cmp.find_internal_sep.Goals.{in_default-via-in-Raised+else-n-u, in_default-via-in_default}

pub put_tagged-requires : goal.put_tagged-requires
put_tagged-requires c = fits_raised c.plan.ensures.fits c.in-Raised.is

pub returns-in-Raised : goal.returns-in-Raised
returns-in-Raised c = wrote_as (internal_short _ _ c.user_key-u.ensures c.user_key.ensures c.plan.ensures c.in-Raised.is c.if-n-u.true) c.put_tagged.ensures

pub returns-in_default : goal.returns-in_default
returns-in_default c =
    elim c.in_default.branch [
      | in_default-via-in-Raised+else-n-u w ↦
          wrote_as (internal_long _ _ c.user_key-u.ensures c.user_key.ensures c.plan.ensures w.in-Raised.is w.if-n-u.false) c.put_bytes.ensures
      | in_default-via-in_default w ↦
          wrote_as (internal_other _ _ c.user_key-u.ensures c.user_key.ensures c.plan.ensures w.in_default.not-Raised) c.put_bytes.ensures
    ]

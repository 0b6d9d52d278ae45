-- `keys::cmp::put_sep` meets its contract.
use mathlib.Core.Path.{sym, ap}
use Rattle.keys.specs.Plan.{sep_bytes}
use Rattle.codec.proofs.PutLaws.{wrote_as}
use Rattle.keys.proofs.PlanLaws.{fits_raised}
use Rattle.keys.proofs.cmp.put_sep.Goals as goal

pub put_raised-requires : goal.put_raised-requires
put_raised-requires c = fits_raised c.requires c.in-Raised.is

pub returns-in-Whole : goal.returns-in-Whole
unfolding sep_bytes
returns-in-Whole c = wrote_as (sym (ap (sep_bytes c.args.a.now) c.in-Whole.is)) c.put_bytes.ensures

pub returns-in-Longer : goal.returns-in-Longer
unfolding sep_bytes
returns-in-Longer c = wrote_as (sym (ap (sep_bytes c.args.a.now) c.in-Longer.is)) c.put_joined.ensures

pub returns-in-Raised : goal.returns-in-Raised
unfolding sep_bytes
returns-in-Raised c = wrote_as (sym (ap (sep_bytes c.args.a.now) c.in-Raised.is)) c.put_raised.ensures

-- `keys::cmp::put_tagged` meets its contract: there is room for both, so that no write is refused.
use Rattle.codec.proofs.PutLaws.{wrote_exit, wrote_never, wrote_then}
use Rattle.keys.specs.Order.{last_tag}
use Rattle.keys.proofs.PlanLaws.{raised_length, raised_tagged}
use native.Mathlib.Omega.{arith}
use Rattle.keys.proofs.cmp.put_tagged.Goals as goal

pub returns-in_err-end_of : goal.returns-in_err-end_of
returns-in_err-end_of c = let a = c.args in
    wrote_exit c.from_residual.ensures.0 (omega (arith, raised_tagged a.a.now a.i a.n c.requires, c.in_err-end_of.ensures))

pub returns-in_err-next : goal.returns-in_err-next
returns-in_err-next c = let a = c.args in
    absurd (wrote_never _ _ _ _ _ (omega (arith, raised_length a.a.now a.i a.n c.requires, c.in_ok-end_of.ensures)) c.put_raised.ensures c.in_err-next.was)

pub returns : goal.returns
unfolding last_tag
returns c = let a = c.args in
    wrote_then _ _ _ _ _ _ _ _ _ (omega (arith, raised_length a.a.now a.i a.n c.requires, c.in_ok-end_of.ensures)) c.put_raised.ensures c.in_ok-next.was c.put_bytes.ensures

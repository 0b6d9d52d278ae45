-- `keys::cmp::put_joined` meets its contract: there is room for all, so that no write is refused.
use mathlib.Core.List.{◌∷◌}
use lib.ListN.{length-append}
use Rattle.codec.proofs.PutLaws.{wrote_exit, never_first, never_second, wrote_three}
use native.Mathlib.Omega.{arith}
use Rattle.keys.proofs.cmp.put_joined.Goals as goal

pub returns-in_err-end_of : goal.returns-in_err-end_of
returns-in_err-end_of c = let a = c.args in
    wrote_exit c.from_residual.ensures.0 (omega (arith, length-append a.front.now (a.x ∷ a.back.now), c.in_err-end_of.ensures))

pub returns-in_err-next : goal.returns-in_err-next
returns-in_err-next c = let a = c.args in
    absurd (never_first (a.x ∷ a.back.now) (omega (arith, length-append a.front.now (a.x ∷ a.back.now), c.in_ok-end_of.ensures)) c.put_bytes.ensures c.in_err-next.was)

pub returns-in_err-next-2 : goal.returns-in_err-next-2
returns-in_err-next-2 c = let a = c.args in
    absurd (never_second a.back.now (omega (arith, length-append a.front.now (a.x ∷ a.back.now), c.in_ok-end_of.ensures))
    c.put_bytes.ensures c.in_ok-next.was c.put_bytes-2.ensures c.in_err-next-2.was)

pub returns : goal.returns
returns c = let a = c.args in
    wrote_three (omega (arith, length-append a.front.now (a.x ∷ a.back.now), c.in_ok-end_of.ensures))
    c.put_bytes.ensures c.in_ok-next.was c.put_bytes-2.ensures c.in_ok-next-2.was c.put_bytes-3.ensures

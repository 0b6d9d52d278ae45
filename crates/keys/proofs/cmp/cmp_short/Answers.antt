-- `keys::cmp::cmp_short` meets its contract: the first byte in which the two differ decides, or their lengths.
use native.Mathlib.Omega.{arith}
use Rattle.codec.specs.Bytes.{common}
use Rattle.codec.proofs.BytesLaws.{shares_common}
use Rattle.keys.proofs.AnswerLaws.{number_told}
use Rattle.keys.proofs.CompareLaws.{bytes_common, bytes_ended}
use Rattle.keys.proofs.cmp.cmp_short.Goals as goal

pub returns-then-i-min : goal.returns-then-i-min
returns-then-i-min c = let i = c.common_from-i in
    let a = c.args in
    number_told _ _ c.cmp.ensures (rw (← i.ensures) at (bytes_common a.a.now a.b.now) (omega (arith, i.ensures)) (omega (arith, i.ensures)))

pub returns-else-i-min : goal.returns-else-i-min
returns-else-i-min c = let i = c.common_from-i in
    let a = c.args in
    let s = shares_common a.a.now a.b.now in
    number_told _ _ c.cmp-else-i-min.ensures (bytes_ended a.a.now a.b.now (common a.a.now a.b.now) s.same (omega (arith, i.ensures)))

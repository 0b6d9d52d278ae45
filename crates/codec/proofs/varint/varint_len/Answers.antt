-- `codec::varint::varint_len` meets its contract. The invariant: the bytes counted and those of what is left are as many as the whole has.
use mathlib.Core.Path.{◌≡◌, ap, refl}
use native.Mathlib.Omega.{arith}
use lib.ListN.{length}
use Rattle.codec.specs.Varint.{varint_bytes}
use Rattle.codec.proofs.VarintLaws.{bytes_last}
use Rattle.codec.proofs.VarintCode.{bytes_turn}
use Rattle.codec.proofs.varint.varint_len.Goals as goal

pub loop-n-init : goal.loop-n-init
unfolding varint_bytes
loop-n-init c = (9, refl, omega arith, omega arith)

pub returns-then-left-lt128 : goal.returns-then-left-lt128
returns-then-left-lt128 c = let i = c.loop-n.invariant in
    omega (arith, ap length (bytes_last i.0 c.loop-n.left c.if-left-lt128.true))

pub loop-n-preserved : goal.loop-n-preserved
loop-n-preserved c = let i = c.loop-n.invariant in
    let t = bytes_turn i.0 c.loop-n.left i.2 c.if-left-lt128.false in
    (t.0, omega arith, t.2, omega (arith, ap length t.3))

pub returns : goal.returns
returns c = let i = c.loop-n.invariant in
    let z : i.0 ≡ 0 = omega arith in
    omega (arith, ap length (bytes_last i.0 c.loop-n.left (rw z at i.2)))

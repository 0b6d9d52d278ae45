-- `checksum::crc::byte` meets its contract. The invariant: the bits to go, from the state, give the byte's.
use Rattle.std.proofs.Common.{◌≡◌, ℕ, suc, ◌+◌, ◌-◌, ◌<◌, ◌≤◌, sym, ap, ◌∙◌, arith, rules}
use lib.Bits.{bit_xor}
use Rattle.checksum.specs.Checksum.{crc_bit, crc_bits, crc_byte}
use Rattle.checksum.proofs.crc.byte.Goals as goal

step : (k x : ℕ) → k < 8 → crc_bits (8 - (k + 1)) (crc_bit x) ≡ crc_bits (8 - k) x
unfolding crc_bits
step k x h =
    let e : 8 - k ≡ suc (8 - (k + 1)) = omega arith in
    ap (λ (n : ℕ). crc_bits n x) (sym e)

stop : (k x : ℕ) → 8 ≤ k → crc_bits (8 - k) x ≡ x
unfolding crc_bits
stop k x h =
    let e : 8 - k ≡ 0 = omega arith in
    ap (λ (n : ℕ). crc_bits n x) e

pub loop-k-init : goal.loop-k-init
unfolding crc_byte
loop-k-init c = ap (λ (b : ℕ). crc_bits 8 (bit_xor c.args.c b)) c.from.ensures

pub loop-k-preserved : goal.loop-k-preserved
loop-k-preserved c = let l = c.loop-k in
    ap (crc_bits (8 - (l._k + 1))) c.bit-x.ensures ∙ step l._k l.x (search rules) ∙ l.invariant

pub returns : goal.returns
returns c = sym (stop c.loop-k._k c.loop-k.x (search rules)) ∙ c.loop-k.invariant

-- `checksum::crc::mask_crc` meets its contract: the two shifts have no bit in common.
use Rattle.std.proofs.Common.{◌≡◌, ℕ, ◌+◌, ◌*◌, ◌/◌, ◌%◌, ◌^◌, ◌<◌, ap, ◌∙◌, arith}
use lib.Bits.{bit_or, or_shifted_r}
use Rattle.checksum.specs.Checksum.{crc_mask}
use Rattle.checksum.proofs.crc.mask_crc.Goals as goal

rotated : (x : ℕ) → x < 2 ^ 32 → bit_or (x / 2 ^ 15) (x * 2 ^ 17 % 2 ^ 32) ≡ x / 2 ^ 15 + x % 2 ^ 15 * 2 ^ 17
rotated x h =
    let e : x * 2 ^ 17 % 2 ^ 32 ≡ x % 2 ^ 15 * 2 ^ 17 = omega arith in
    ap (bit_or (x / 2 ^ 15)) e ∙ or_shifted_r (x % 2 ^ 15) 17 (x / 2 ^ 15) (omega arith) ∙ omega arith

pub returns : goal.returns
unfolding crc_mask
returns c = ap (λ (n : ℕ). (n + 0xa282_ead8) % 2 ^ 32) (c.rotate_right.ensures ∙ rotated c.args.crc c.ranges.crc.fits)

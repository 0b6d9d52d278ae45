-- `checksum::crc::extend` meets its contract.
use Rattle.std.proofs.Common.{ℕ, ap}
use lib.Bits.{bit_xor}
use Rattle.checksum.specs.Checksum.{crc_extend}
use Rattle.checksum.proofs.crc.extend.Goals as goal

pub returns : goal.returns
unfolding crc_extend
returns c = ap (λ (x : ℕ). bit_xor x 0xffff_ffff) c.over.ensures

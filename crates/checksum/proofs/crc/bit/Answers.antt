-- `checksum::crc::bit` meets its contract.
use Rattle.std.proofs.Common.{eq-eqb, ne_eqb}
use Rattle.checksum.specs.Checksum.{crc_bit}
use Rattle.checksum.proofs.crc.bit.Goals as goal

pub returns-then-c-eq1 : goal.returns-then-c-eq1
unfolding crc_bit
returns-then-c-eq1 c = simp (eq-eqb _ _ c.if-c-eq1.true)

pub returns-else-c-eq1 : goal.returns-else-c-eq1
unfolding crc_bit
returns-else-c-eq1 c = simp (ne_eqb _ _ c.if-c-eq1.false)

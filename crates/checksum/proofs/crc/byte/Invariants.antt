-- `checksum::crc::byte` meets its contract. The invariant: the bits to go, from the state, give the byte's.
use Rattle.std.proofs.Common.{◌≡◌, ◌-◌}
use Rattle.checksum.specs.Checksum.{crc_bits, crc_byte}
use Rattle.checksum.proofs.crc.byte.Given as goal

abbrev pub invariant-loop-k : goal.invariant-loop-k
invariant-loop-k l = crc_bits (8 - l._k) l.x ≡ crc_byte l.c l.b

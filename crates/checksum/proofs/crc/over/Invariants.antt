-- `checksum::crc::over` meets its contract. The invariant: the bytes to go, from the state, give the whole.
use Rattle.std.proofs.Common.{◌≡◌, drop}
use Rattle.checksum.specs.Checksum.{crc_over}
use Rattle.checksum.proofs.crc.over.Given as goal

abbrev pub invariant-loop-b : goal.invariant-loop-b
invariant-loop-b l = crc_over l.x (drop l.b-index l.s) ≡ crc_over l.c l.s

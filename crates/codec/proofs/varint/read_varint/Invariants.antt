-- `codec::varint::read_varint` meets its contract. The invariant of its loop: what is left to read, put behind what was read, is the whole.
use mathlib.Core.Path.{◌≡◌}
use Prim.Native.Nat.{◌^◌, ◌<◌}
use Rattle.codec.proofs.VarintCode.{Left}
use Rattle.codec.proofs.varint.read_varint.Given as goal

abbrev pub invariant-loop-i : goal.invariant-loop-i
invariant-loop-i l = (l.value < l.unit) × (l.unit ≡ 128 ^ l.i) × Left l.s l.value l.unit l.i

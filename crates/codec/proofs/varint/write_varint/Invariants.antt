-- `codec::varint::write_varint` meets its contract. The invariant: to store the bytes of what is left at i is to store the bytes of x at the place.
use mathlib.Core.Path.{◌≡◌}
use Prim.Native.Nat.{ℕ, suc, ◌+◌, ◌^◌, ◌<◌}
use lib.ListN.{length}
use lib.Seq.{sets}
use Rattle.codec.specs.Varint.{varint_bytes_f, varint_bytes}
use Rattle.codec.proofs.varint.write_varint.Given as goal

abbrev pub invariant-loop-i : goal.invariant-loop-i
invariant-loop-i l = (k : ℕ) × (l.left < 128 ^ suc k) × (l.i + length (varint_bytes_f (suc k) l.left) ≡ l.end) × (sets l.out l.i (varint_bytes_f (suc k) l.left) ≡ sets l.initial.out l.at (varint_bytes l.x)) × (length l.out ≡ length l.initial.out)

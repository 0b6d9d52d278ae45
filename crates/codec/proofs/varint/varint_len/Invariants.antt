-- `codec::varint::varint_len` meets its contract. The invariant: the bytes counted and those of what is left are as many as the whole has.
use mathlib.Core.Path.{◌≡◌}
use Prim.Native.Nat.{ℕ, suc, ◌+◌, ◌^◌, ◌<◌}
use lib.ListN.{length}
use Rattle.codec.specs.Varint.{varint_bytes_f, varint_bytes}
use Rattle.codec.proofs.varint.varint_len.Given as goal

-- n bytes, the last of which is yet to be taken, and the bytes of left are as long as the whole
abbrev pub invariant-loop-n : goal.invariant-loop-n
invariant-loop-n l = (k : ℕ) × (k + l.n ≡ 10) × (l.left < 128 ^ suc k) × (l.n + length (varint_bytes_f (suc k) l.left) ≡ suc (length (varint_bytes l.x)))

-- Bytes of a fixed number at a place.
use Rattle.std.specs.Prelude.{ℕ, ◌+◌, ◌≡◌, ◌≤◌, ◌<◌, List, length, Option, None, Some}
use Rattle.codec.specs.Bytes.{part}

-- the n bytes at a place of s, where they are there
abbrev pub ChunkAt : ℕ → List ℕ → ℕ → Option (List ℕ) → Type 0
ChunkAt n s at None = length s < at + n
ChunkAt n s at (Some bs) = (at + n ≤ length s) × (bs ≡ part s at n)

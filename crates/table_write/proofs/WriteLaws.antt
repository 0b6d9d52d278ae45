-- What seals a block, and one number more in a run.
use Prim.Native.Nat.{ℕ, ◌+◌, ◌-◌, ◌^◌, ◌≤◌, ◌<◌, min}
use mathlib.Core.Path.{◌≡◌, sym, ap₂, ◌∙◌}
use mathlib.Core.List.{List, [], ◌∷◌}
use native.Mathlib.Omega.{arith}
use lib.ListN.{length, take, set}
use Rattle.codec.specs.Bytes.{part}
use Rattle.checksum.specs.Checksum.{trailer}
use Rattle.codec.specs.Put.{put}
use Rattle.codec.proofs.PutLaws.{put_sets, put_full}
use Rattle.block_builder.specs.declared.block_builder.BlockBuilder.{BlockBuilder}
use Rattle.blocks.specs.Block.{tail_bytes}
use Rattle.blocks.specs.Count.{count_size}
use Rattle.block_builder.specs.Builder.{count_in}
use Rattle.table_write.specs.Writes.{size_of, tailed_out, sealed_out}

pub size_is : (b : BlockBuilder) → count_size (count_in b) ≤ 2 ^ 40 → size_of b ≡ count_size (count_in b)
unfolding size_of
size_is b h = omega arith

pub sealed_is : (out : List ℕ) (at : ℕ) (b : BlockBuilder) (rs : List ℕ) (size : ℕ) {e f : List ℕ} → size ≡ min (2 ^ 64 - 1) (count_size (count_in b))
    → e ≡ put out (at + b.bytes) (tail_bytes (take b.restarts rs)) → f ≡ put e (at + size) (trailer (part e at size)) → f ≡ sealed_out out at b rs
unfolding sealed_out tailed_out size_of
sealed_is out at b rs size p q w = w ∙ ap₂ (λ (x : List ℕ) (n : ℕ). put x (at + n) (trailer (part x at n))) q p

-- ---- one number more

pub pushed : (d : List ℕ) (n x : ℕ) → n < length d → set d n x ≡ put d n (x ∷ [])
pushed d n x h = sym (put_sets d n (x ∷ []) (omega arith))

pub not_pushed : (d : List ℕ) (n x : ℕ) → length d ≤ n → d ≡ put d n (x ∷ [])
not_pushed d n x h = sym (put_full d n (x ∷ []) (omega arith))

-- The filter block's handle, entry by entry.
use Prim.Native.Nat.{ℕ}
use mathlib.Core.Path.{◌≡◌, refl}
use mathlib.Core.Bool.{true, false}
use mathlib.Core.List.{List, [], ◌∷◌}
use mathlib.Core.Option.{Option}
use Rattle.std.specs.Prelude as code
use Rattle.std.specs.Prelude.{None}
use Rattle.codec.specs.Answers.{given}
use Rattle.codec.specs.Bytes.{same_bytes}
use Rattle.codec.specs.Varint.{Handle, one_handle}
use Rattle.blocks.specs.Block.{Entry, pairs_of}
use Rattle.blocks.specs.Formed.{bloom_name}
use Rattle.block_reader.specs.Steps.{rows_of}
use Rattle.block_reader.proofs.SeekLaws.{never_read}
use Rattle.table_block.specs.Answers.{BloomRead}
use Rattle.table.specs.Table.{bloom_handle}

-- what is read of the entries
abbrev pub named : List Entry → Option Handle
named es = bloom_handle (pairs_of es)

pub bloom_end : None ≡ given (named [])
unfolding bloom_handle given
bloom_end = refl

module _ (e : Entry) (rest : List Entry) where
  pub bloom_here : same_bytes e.key bloom_name ≡ true → named (e ∷ rest) ≡ one_handle e.value
  unfolding bloom_handle
  bloom_here h = rw (h, bloom_handle)

  pub bloom_past : same_bytes e.key bloom_name ≡ false → named (e ∷ rest) ≡ named rest
  unfolding bloom_handle
  bloom_past h = rw (h, bloom_handle)

-- without a layout nothing can be read
pub bloom_bad : (s : List ℕ) (r : code.Option Handle) → given (rows_of s) ≡ None → BloomRead s r
bloom_bad s r e = record { answer = λ es read. absurd (never_read s e read) }

-- The answers of building and reading a block, in numbers.
use Rattle.std.specs.Prelude.{ℕ, Bool, cond, List, eqb, None, Some, Result, Ok, Err}
use Rattle.std.specs.Prelude as Code
use Rattle.std.proofs.Math.Option.{Option}
use Rattle.codec.specs.Shown.{Shown}
use Rattle.blocks.specs.Block.{Entry}
use Rattle.block_builder.specs.Builder.{AddedIs}
use Rattle.codec.specs.declared.put.NoRoom.{NoRoom}
use Rattle.block_builder.specs.declared.block_builder.BlockBuilder.{BlockBuilder}
use Rattle.block_reader.specs.Said.{Said}
use Rattle.block_reader.specs.declared.block.Entry as Row
use Rattle.block_reader.specs.declared.block.BlockError.{BlockError}
use Rattle.block_reader.specs.declared.block.BlockError.TheVariants as ErrorCase
use Rattle.block_reader.specs.declared.block.Kind as KindEnum
use Rattle.block_reader.specs.declared.block.Kind.TheVariants as KindCase
use Rattle.pieces.specs.declared.block.SalevoniBlockAdded.{SalevoniBlockAdded}
use Rattle.pieces.specs.declared.block.SalevoniRow.{SalevoniRow}

-- a kind of block: 0 data, 1 index, any other metaindex
abbrev pub kind_in : ℕ → KindEnum.Kind
kind_in n = cond (eqb n 0) KindCase.Data (cond (eqb n 1) KindCase.Index KindCase.Metaindex)

-- what adding an entry answers, and the builder that it leaves
pub record Added : Type 0 where
  pub answer : Result (Unit {0}) NoRoom
  pub block : BlockBuilder

-- 0 or, where the entry does not fit, 2; and the block
abbrev pub added_with : Added → SalevoniBlockAdded
added_with x = record { answer = elim x.answer [ Ok u ↦ 0 | Err e ↦ 2 ]; block = x.block }

-- adding an entry to the block at the front of out answers r and leaves both runs so
abbrev pub AddsBlock : BlockBuilder → List ℕ → List ℕ → List ℕ → List ℕ → List ℕ → List ℕ → SalevoniBlockAdded → Type 0
AddsBlock b out out' restarts restarts' key value r = Shown added_with (λ x. AddedIs b 0 out out' restarts restarts' key value x.answer x.block) r

-- a number without an entry
abbrev pub no_row : ℕ → SalevoniRow
no_row n = record { answer = n; start = 0; key_len = 0; value_at = 0; value_len = 0 }

-- 0 with an entry, 100 for none, 14 where none starts at the place, 10 for a malformed block
abbrev pub row_out : Result (Code.Option Row.Entry) BlockError → SalevoniRow
row_out (Ok (Some e)) = record { answer = 0; start = e.start; key_len = e.key_len; value_at = e.value_at; value_len = e.value_len }
row_out (Ok None) = no_row 100
row_out (Err ErrorCase.NoPlace) = no_row 14
row_out (Err ErrorCase.Bad) = no_row 10

-- reading a block s with a key buffer k answers r and leaves k'
abbrev pub SaysOut : List ℕ → (List Entry → Option (Option Entry)) → (List Entry → Bool) → List ℕ → SalevoniRow → List ℕ → Type 0
SaysOut s says ordered k r k' = Shown row_out (λ x. Said s says ordered k x k') r

-- The answers of making filters, in numbers.
use Rattle.std.specs.Prelude.{ℕ, List, Some, Result, Ok, Err}
use Rattle.codec.specs.Shown.{Shown}
use Rattle.filters.specs.FilterBlock.{Filtering}
use Rattle.bloom.specs.Choice.{choice_of}
use Rattle.filter_block.specs.Make.{MadeFilters}
use Rattle.codec.specs.declared.put.NoRoom.{NoRoom}
use Rattle.filter_block.specs.declared.filter_block.Made.{Made}
use Rattle.pieces.specs.declared.filter.SalevoniFilters.{SalevoniFilters}

-- a Bloom filter of so many bits per key
abbrev pub bloom_of : ℕ → Filtering
bloom_of bits = choice_of (Some bits)

-- 0 and how many bytes the filters have and how many there are, or 2 and zeros without room
abbrev pub made_out : Result Made NoRoom → SalevoniFilters
made_out (Ok m) = record { answer = 0; bytes = m.bytes; made = m.made }
made_out (Err e) = record { answer = 2; bytes = 0; made = 0 }

-- making filters of some hashes each, behind so many bytes and so many filters, answers r and leaves both runs so
abbrev pub MadeOut : Filtering → List (List ℕ) → ℕ → ℕ → SalevoniFilters → List ℕ → List ℕ → List ℕ → List ℕ → Type 0
MadeOut c gs bytes made r f f' o o' = Shown made_out (λ x. MadeFilters c gs bytes made x f f' o o') r

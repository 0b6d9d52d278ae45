-- What a table is built with and of, and the limits.
use Rattle.std.specs.Prelude.{ℕ, ◌^◌, Bool, true, ◌&&◌, List, leb, ltb, length}
use Rattle.codec.specs.Limits.{within}
use Rattle.filters.specs.FilterBlock.{Filtering, unfiltered, bits_per_key}

-- restart interval, block size, filter choice
pub record Options : Type 0 where
  pub interval : ℕ
  pub block_size : ℕ
  pub filtering : Filtering

-- the restart interval of the index block; the metaindex keeps the data blocks' own
unfoldable pub index_interval : Options → ℕ
index_interval o = o.interval

-- the most bytes that a table has
abbrev pub table_limit : ℕ
table_limit = 16777216

-- the empty table's bytes
unfoldable pub empty_size : Filtering → ℕ
empty_size unfiltered = 97
empty_size (bits_per_key b) = 123

-- 1 to 64 bits per key
unfoldable pub filtering_fits : Filtering → Bool
filtering_fits unfiltered = true
filtering_fits (bits_per_key b) = within 1 64 b

-- the limits of options
unfoldable pub options_fit : Options → Bool
options_fit o = within 1 1024 o.interval && (within 8 65536 o.block_size && filtering_fits o.filtering)

-- an addition: a user key and a sequence, a kind and a value
pub record Addition : Type 0 where
  pub word : List ℕ
  pub edition : ℕ
  pub kind : ℕ
  pub value : List ℕ

-- the limits of additions
unfoldable pub addition_fits : Addition → Bool
addition_fits a =
    within 1 1024 (length a.word) && (leb (length a.value) 32768 && (ltb a.edition (2 ^ 56) && leb a.kind 1))

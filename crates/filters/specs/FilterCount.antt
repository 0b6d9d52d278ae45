-- The sizes of a filter block being built, in numbers alone, and how a key, a data block and the end move them.
use Rattle.std.specs.Prelude.{ℕ, zero, suc, ◌+◌, ◌*◌, ◌/◌, true, false, ltb, length}
use Rattle.filters.specs.Filter.{filter_size}
use Rattle.filters.specs.FilterBlock.{Filtering, unfiltered, bits_per_key, Filters, made_bytes}

-- the filters' bytes, how many filters there are, and how many hashes wait
pub record FilterCount : Type 0 where
  pub bytes : ℕ
  pub made : ℕ
  pub waiting : ℕ

-- the counts of filters being made
unfoldable pub filter_count_of : Filtering → Filters → FilterCount
filter_count_of c f = record { bytes = length (made_bytes c f.made); made = length f.made; waiting = length f.waiting }

-- the bytes of a filter of so many hashes
unfoldable pub filter_bytes_of : Filtering → ℕ → ℕ
filter_bytes_of unfiltered n = 0
filter_bytes_of (bits_per_key b) zero = 0
filter_bytes_of (bits_per_key b) (suc n) = filter_size (suc n * b) + 1

-- one hash more waits
unfoldable pub count_waiting : FilterCount → FilterCount
count_waiting f = record { bytes = f.bytes; made = f.made; waiting = suc f.waiting }

-- filters made until there are so many: the first takes all that wait, the others are empty
unfoldable pub count_made : Filtering → ℕ → FilterCount → FilterCount
count_made c n f =
    elim (ltb f.made n) [
      | true ↦ record { bytes = f.bytes + filter_bytes_of c f.waiting; made = n; waiting = 0 }
      | false ↦ f
    ]

-- up to an offset's number
unfoldable pub count_up_to : Filtering → ℕ → FilterCount → FilterCount
count_up_to c offset f = count_made c (offset / 2048) f

-- one more if hashes still wait
unfoldable pub count_last : Filtering → FilterCount → FilterCount
count_last c f = elim f.waiting [ zero ↦ f | suc n ↦ count_made c (suc f.made) f ]

-- the filter block's bytes: the filters, 4 for each, and 5
unfoldable pub filter_block_size : FilterCount → ℕ
filter_block_size f = f.bytes + 4 * f.made + 5

-- The code's filter choice, as the definitions name it.
use Rattle.std.specs.Prelude.{ℕ, Option, None, Some}
use Rattle.filters.specs.FilterBlock.{Filtering, unfiltered, bits_per_key}

-- none, or whole bits per key
unfoldable pub choice_of : Option ℕ → Filtering
choice_of None = unfiltered
choice_of (Some b) = bits_per_key b

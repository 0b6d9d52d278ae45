-- The filter block: the filters, where each starts, where the starts begin, and the base log.
use Rattle.std.specs.Prelude.{ℕ, zero, suc, ◌+◌, ◌*◌, ◌-◌, ◌/◌, ◌%◌, ◌^◌, List, [], ◌∷◌, ◌++◌, Bool, ◌&&◌, ◌||◌, eqb, ltb, leb, length, drop, get_or}
use Rattle.codec.specs.Bytes.{part, bytes_of, number_of, fours, numbers}
use Rattle.filters.specs.Filter.{filter, filter_may}

-- ---- reading, of any bytes

-- the base log: the last byte
unfoldable pub base_of : List ℕ → ℕ
base_of s = get_or s (length s - 1) 0

-- where the starts begin: the 4 bytes before it
unfoldable pub array_of : List ℕ → ℕ
array_of s = number_of (part s (length s - 5) 4)

-- how many starts there are
unfoldable pub count_of : List ℕ → ℕ
count_of s = (length s - 5 - array_of s) / 4

-- where filter i starts; past the last, where the starts begin
unfoldable pub start_of : List ℕ → ℕ → ℕ
start_of s i = number_of (part s (array_of s + 4 * i) 4)

-- rising or equal, from low to high
unfoldable pub rising : ℕ → List ℕ → ℕ → Bool
rising low [] high = leb low high
rising low (x ∷ xs) high = leb low x && rising x xs high

-- well formed: 5 bytes at least, base log at most 31, starts rising or equal within the filters, whole numbers of 4 bytes
unfoldable pub filter_formed : List ℕ → Bool
filter_formed s =
    leb 5 (length s)
    && (leb (base_of s) 31
    && (leb (array_of s) (length s - 5)
    && (eqb ((length s - 5 - array_of s) % 4) 0 && rising 0 (numbers (count_of s) (drop (array_of s) s)) (array_of s))))

-- whether the block that starts at an offset may hold a key of that hash
unfoldable pub may_match : List ℕ → ℕ → ℕ → Bool
may_match s offset h =
    let i = offset / 2 ^ (base_of s) in
    let from = start_of s i in
    let to = start_of s (i + 1) in
    ltb (length s) 5
    || (ltb 31 (base_of s)
    || (ltb (length s - 5) (array_of s)
    || (leb (count_of s) i || (ltb to from || (ltb (array_of s) to || filter_may (part s from (to - from)) h)))))

-- ---- building

-- the filter choice
pub data Filtering : Type 0 where
  unfiltered : Filtering
  bits_per_key : ℕ → Filtering

-- the filter of some hashes: empty without filter, and of no hashes
unfoldable pub filter_for : Filtering → List ℕ → List ℕ
filter_for unfiltered hs = []
filter_for (bits_per_key b) [] = []
filter_for (bits_per_key b) (h ∷ hs) = filter b (h ∷ hs)

-- filters being made: the hashes of each one made so far, and those that wait for the next
pub record Filters : Type 0 where
  pub made : List (List ℕ)
  pub waiting : List ℕ

-- none made, and none waiting
unfoldable pub no_filters : Filters
no_filters = record { made = []; waiting = [] }

-- more hashes wait
unfoldable pub wait : List ℕ → Filters → Filters
wait hs f = record { made = f.made; waiting = f.waiting ++ hs }

-- a filter of those that wait
unfoldable pub make_filter : Filters → Filters
make_filter f = record { made = f.made ++ (f.waiting ∷ []); waiting = [] }

-- n filters, of which the first takes all that wait
unfoldable pub make_filters : ℕ → Filters → Filters
make_filters zero f = f
make_filters (suc n) f = make_filters n (make_filter f)

-- filters up to an offset's number: one per 2,048 bytes
unfoldable pub filters_up_to : ℕ → Filters → Filters
filters_up_to offset f = make_filters (offset / 2048 - length f.made) f

-- one more if hashes still wait
unfoldable pub last_filter : Filters → Filters
last_filter f = elim f.waiting [ [] ↦ f | h ∷ hs ↦ make_filter f ]

-- the filters' bytes, one after the other
unfoldable pub made_bytes : Filtering → List (List ℕ) → List ℕ
made_bytes c [] = []
made_bytes c (g ∷ gs) = filter_for c g ++ made_bytes c gs

-- where each starts, from a place on
unfoldable pub starts : Filtering → ℕ → List (List ℕ) → List ℕ
starts c at [] = []
starts c at (g ∷ gs) = at ∷ starts c (at + length (filter_for c g)) gs

-- the filter block of the filters' bytes and where each starts
unfoldable pub filter_block_of : List ℕ → List ℕ → List ℕ
filter_block_of fs os = fs ++ (fours os ++ (bytes_of 4 (length fs) ++ (11 ∷ [])))

-- the filter block of the hashes of each filter
unfoldable pub filter_block_bytes : Filtering → List (List ℕ) → List ℕ
filter_block_bytes c gs = filter_block_of (made_bytes c gs) (starts c 0 gs)

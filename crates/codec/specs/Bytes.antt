-- Bytes are lists of numbers below 256. Parts of them, and numbers of several bytes, least byte first.
use Rattle.std.specs.Prelude.{ℕ, zero, suc, ◌+◌, ◌*◌, ◌/◌, ◌%◌, List, [], ◌∷◌, ◌++◌, Bool, true, false, ◌&&◌, eqb, leb, length, take, drop}
use Rattle.std.proofs.Math.Option.{Option, none, some}

-- the len bytes from a place on
unfoldable pub part : List ℕ → ℕ → ℕ → List ℕ
part s from len = take len (drop from s)

-- the low w bytes of x, least first
unfoldable pub bytes_of : ℕ → ℕ → List ℕ
bytes_of zero x = []
bytes_of (suc w) x = x % 256 ∷ bytes_of w (x / 256)

-- the number that bytes make, least first
unfoldable pub number_of : List ℕ → ℕ
number_of [] = 0
number_of (b ∷ bs) = b + 256 * number_of bs

-- the number of w bytes at a place: none where s ends before
unfoldable pub number_at : ℕ → List ℕ → ℕ → Option ℕ
number_at w s at = elim (leb (at + w) (length s)) [ true ↦ some (number_of (part s at w)) | false ↦ none ]

-- numbers of 4 bytes each, one after the other
unfoldable pub fours : List ℕ → List ℕ
fours [] = []
fours (x ∷ xs) = bytes_of 4 x ++ fours xs

-- the first n numbers of 4 bytes each
unfoldable pub numbers : ℕ → List ℕ → List ℕ
numbers zero s = []
numbers (suc n) s = number_of (take 4 s) ∷ numbers n (drop 4 s)

-- whether two are the same bytes
unfoldable pub same_bytes : List ℕ → List ℕ → Bool
same_bytes [] [] = true
same_bytes [] (y ∷ ys) = false
same_bytes (x ∷ xs) [] = false
same_bytes (x ∷ xs) (y ∷ ys) = eqb x y && same_bytes xs ys

-- how many bytes two share at their start
unfoldable pub common : List ℕ → List ℕ → ℕ
common [] ys = 0
common (x ∷ xs) [] = 0
common (x ∷ xs) (y ∷ ys) = elim (eqb x y) [ true ↦ suc (common xs ys) | false ↦ 0 ]

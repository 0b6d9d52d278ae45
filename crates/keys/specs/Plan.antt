-- What the code's steps stand for: bytes as one number, greatest first, and a separator as a plan over its key.
use Rattle.std.specs.Prelude.{ℕ, ◌+◌, ◌*◌, ◌-◌, ◌^◌, ◌≤◌, ◌<◌, ◌≡◌, List, [], ◌∷◌, ◌++◌, length, take, get_or, Option, None, Some}
use Rattle.std.proofs.Math.Option.{none, some}
use Rattle.codec.specs.Bytes.{part}
use Rattle.keys.specs.declared.cmp.Sep.{Sep}
use Rattle.keys.specs.declared.cmp.Sep.TheVariants.{Whole, Longer, Raised}
use Rattle.keys.specs.Order.{raised_start, raised_last, short_succ}

-- the number that bytes make, greatest first
unfoldable pub big_of : List ℕ → ℕ
big_of [] = 0
big_of (b ∷ bs) = b * 256 ^ length bs + big_of bs

-- the first n bytes of a, that at i raised by one
unfoldable pub raised : List ℕ → ℕ → ℕ → List ℕ
raised a i n = take i a ++ ((get_or a i 0 + 1) ∷ part a (i + 1) (n - (i + 1)))

-- the byte at i is one of the first n, and can be raised
pub record Raisable (a : List ℕ) (i n : ℕ) : Type 0 where
  pub before : i < n
  pub within : n ≤ length a
  pub low : get_or a i 0 < 255

-- where a start of a is raised
abbrev pub RaisesFirst : List ℕ → List ℕ → Option ℕ → Type 0
RaisesFirst a b (Some i) = Raisable a i (i + 1) × (raised_start a b ≡ some (raised a i (i + 1)))
RaisesFirst a b None = raised_start a b ≡ none

-- where the whole of a is raised
abbrev pub RaisesLast : List ℕ → Option ℕ → Type 0
RaisesLast a (Some i) = Raisable a i (length a) × (raised_last a ≡ some (raised a i (length a)))
RaisesLast a None = raised_last a ≡ none

-- the bytes of a plan
unfoldable pub sep_bytes : List ℕ → Sep → List ℕ
sep_bytes a Whole = a
sep_bytes a Longer = a ++ (0 ∷ [])
sep_bytes a (Raised i n) = raised a i n

-- a plan that can be carried out
unfoldable pub SepFits : List ℕ → Sep → Type 0
SepFits a Whole = Unit {0}
SepFits a Longer = Unit {0}
SepFits a (Raised i n) = Raisable a i n

-- a plan that gives the bytes wanted
pub record Planned (a : List ℕ) (s : Sep) (bytes : List ℕ) : Type 0 where
  pub fits : SepFits a s
  pub gives : sep_bytes a s ≡ bytes

-- the place of the first byte of a key that is not 255, or that there is none
abbrev pub FirstLow : List ℕ → Option ℕ → Type 0
FirstLow key (Some n) =
    (n < length key) × (get_or key n 0 ≡ 255 → ⊥) × (short_succ key ≡ take n key ++ ((get_or key n 0 + 1) ∷ []))
FirstLow key None = short_succ key ≡ key ++ (255 ∷ [])

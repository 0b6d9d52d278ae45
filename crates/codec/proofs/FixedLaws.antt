-- Numbers of w bytes at a place of a list: what is read, and what an answer says.
use Prim.Native.Nat.{ℕ, zero, suc, ◌+◌, ◌*◌, ◌/◌, ◌%◌, ◌^◌, ◌≤◌, ◌<◌}
use mathlib.Core.Path.{◌≡◌, refl, sym, ap, ap₂, ◌∙◌}
use mathlib.Core.List.{List, ◌∷◌}
use mathlib.Core.Option.{none, some, some_inj, none-ne-some}
use native.Mathlib.Nat.{add-suc, add-zero, pow-suc, div-one, div-div-eq-div-mul}
use native.Mathlib.Omega.{arith}
use lib.ListN.{length, get_or}
use lib.Seq.{drop-cons, take_all}
use borrow.Author.Tests.{le-leb, lt-leb}
use Rattle.std.specs.Int.{byte_at, bytes_low_first}
use Rattle.codec.specs.Bytes.{part, number_of, number_at, bytes_of}
use Rattle.codec.proofs.BytesLaws.{part_length}
use Rattle.codec.proofs.GivenLaws.{gives_none}
use Rattle.codec.specs.Answers.{given}
use Rattle.std.specs.Prelude.{Option, None}

pub number_in_lem : (w : ℕ) (s : List ℕ) (at : ℕ) → at + w ≤ length s → number_at w s at ≡ some (number_of (part s at w))
unfolding number_at
number_in_lem w s at h = rw (le-leb (at + w) (length s) h, number_at)

pub number_out : (w : ℕ) (s : List ℕ) (at : ℕ) → length s < at + w → number_at w s at ≡ none
unfolding number_at
number_out w s at h = rw (lt-leb (at + w) (length s) h, number_at)

-- w bytes of s from at + i on: the first, and 256 times what the others make
abbrev pub horner : List ℕ → ℕ → ℕ → ℕ → ℕ
horner s at i zero = 0
horner s at i (suc w) = get_or s (at + i) 0 + 256 * horner s at (suc i) w

number_part : (w : ℕ) (s : List ℕ) (at i : ℕ) → at + i + w ≤ length s → number_of (part s (at + i) w) ≡ horner s at i w
unfolding number_of part
number_part zero s at i h = refl
number_part (suc w) s at i h = rw (drop-cons s (at + i) 0 (omega arith), ← add-suc, number_part w s at (suc i) (omega arith))

-- the number of w bytes at a place, byte by byte
pub number_is : (w : ℕ) (s : List ℕ) (at : ℕ) → at + w ≤ length s → number_of (part s at w) ≡ horner s at 0 w
number_is w s at h = rw add-zero at (number_part w s at 0 (omega arith))

pub number_at_lem : (w : ℕ) (s : List ℕ) (at : ℕ) → at + w ≤ length s → number_at w s at ≡ some (horner s at 0 w)
number_at_lem w s at h = number_in_lem w s at h ∙ ap some (number_is w s at h)

-- where the bytes are there
module _ (w : ℕ) (s : List ℕ) (at : ℕ) (there : at + w ≤ length s) where
  pub number_read : {x : ℕ} → number_at w s at ≡ some x → x ≡ number_of (part s at w)
  number_read e = some_inj.0 (sym e ∙ number_in_lem w s at there)

  pub number_there : number_at w s at ≡ none → ⊥
  number_there e = none-ne-some (number_of (part s at w)) (sym e ∙ number_in_lem w s at there)

-- the number of w bytes, byte by byte
pub bytes_number : (w : ℕ) (bs : List ℕ) → length bs ≡ w → number_of bs ≡ horner bs 0 0 w
unfolding part
bytes_number w bs h = ap number_of (sym (take_all w bs (omega arith))) ∙ number_is w bs 0 (omega arith)

-- what is given of the number at a place, where its bytes are not there
pub chunk_none : (w : ℕ) (s : List ℕ) (at : ℕ) {r : Option ℕ} → r ≡ None → length s < at + w → r ≡ given (number_at w s at)
chunk_none w s at e h = e ∙ gives_none (number_out w s at h)

-- the number at a place, of the bytes that were taken there
pub chunk_number : (w : ℕ) (s : List ℕ) (at : ℕ) {b : List ℕ} → (at + w ≤ length s) × (b ≡ part s at w) → number_at w s at ≡ some (horner b 0 0 w)
chunk_number w s at e = number_in_lem w s at e.0 ∙ ap some (ap number_of (sym e.1) ∙ bytes_number w _ (ap length e.1 ∙ part_length s at w e.0))

low_byte : (i x : ℕ) → byte_at i x ≡ x / 256 ^ i % 256
low_byte zero x = rw div-one
low_byte (suc i) x = refl

next_power : (i x : ℕ) → x / 256 ^ suc i ≡ x / 256 ^ i / 256
next_power i x = ap (λ (n : ℕ). x / n) (pow-suc 256 i) ∙ sym (div-div-eq-div-mul x (256 ^ i) 256)

-- the bytes of a number from byte i on are those of the number without its low bytes
pub low_bytes : (i k x : ℕ) → bytes_low_first i k x ≡ bytes_of k (x / 256 ^ i)
unfolding bytes_of
low_bytes i zero x = refl
low_bytes i (suc k) x = ap₂ ◌∷◌ (low_byte i x) (low_bytes (suc i) k x ∙ ap (bytes_of k) (next_power i x))

-- and all of them
pub le_bytes : (w x : ℕ) → bytes_low_first 0 w x ≡ bytes_of w x
le_bytes w x = rw div-one at (low_bytes 0 w x)

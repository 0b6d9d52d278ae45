-- A refusal and its number say the same; what an answer is, by what it is equal to.
use Rattle.std.proofs.Common.{◌≡◌, ℕ, List, [], ◌∷◌, map, refl}
use Rattle.std.specs.Prelude.{Result, Ok, Err}
use Rattle.codec.proofs.Prelude.{apart}
use Rattle.table_block.specs.declared.refusal.Refusal.{Refusal}
use Rattle.table_block.specs.declared.refusal.Refusal.TheVariants.{Options, Short, Limits, Order, Full, Finished, NoTable, Outside, Checksum, Malformed, Unordered, Filter, NoPlace}
use Rattle.table_block.specs.Refusals.{number, refusal}

pub refusal_number : (r : Refusal) → refusal (number r) ≡ r
refusal_number Options = refl
refusal_number Short = refl
refusal_number Limits = refl
refusal_number Order = refl
refusal_number Full = refl
refusal_number Finished = refl
refusal_number NoTable = refl
refusal_number Outside = refl
refusal_number Checksum = refl
refusal_number Malformed = refl
refusal_number Unordered = refl
refusal_number Filter = refl
refusal_number NoPlace = refl

-- the numbers in the table, each of which is that of its refusal
abbrev listed : List ℕ
listed = 1 ∷ 2 ∷ 3 ∷ 4 ∷ 5 ∷ 6 ∷ 7 ∷ 8 ∷ 9 ∷ 10 ∷ 11 ∷ 12 ∷ 14 ∷ []

pub number_refusal : map (λ n. number (refusal n)) listed ≡ listed
number_refusal = refl

-- ---- answers

module _ {A E : Type 0} where
  pub ok_is : {a b : A} → ◌≡◌ {A = Result A E} (Ok a) (Ok b) → a ≡ b
  ok_is e = cc

  pub err_is : {d e : E} → ◌≡◌ {A = Result A E} (Err d) (Err e) → d ≡ e
  err_is e = cc

  pub ok_not_err {ℓ} : {P : Type ℓ} {a : A} {e : E} → ◌≡◌ {A = Result A E} (Ok a) (Err e) → P
  ok_not_err e = apart cc

  pub err_not_ok {ℓ} : {P : Type ℓ} {a : A} {e : E} → ◌≡◌ {A = Result A E} (Err e) (Ok a) → P
  err_not_ok e = apart cc

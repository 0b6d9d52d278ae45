-- Small general lemmas: tests and their cases.
use Prim.Native.Nat.{ℕ, ◌≤◌, ◌<◌}
use mathlib.Core.Path.{◌≡◌, refl, sym, ap, ◌∙◌}
use mathlib.Core.Bool.{Bool, true, false, ◌&&◌, ◌||◌, not}
use mathlib.Core.Logic.{◌⊎◌, inl, inr}
use native.Mathlib.Decide.{dec_lt}
use native.Mathlib.Omega.{arith}
use lib.Dec.{T}

-- a test's two cases, each with its equation: the function's own calls may stand in them
pub test {ℓ} : {P : Type ℓ} (b : Bool) → (b ≡ true → P) → (b ≡ false → P) → P
test true t f = t refl
test false t f = f refl

-- one order or the other
pub split {ℓ} : {P : Type ℓ} (a b : ℕ) → (a < b → P) → (b ≤ a → P) → P
split a b f g = elim (dec_lt a b) [ yes h ↦ f h | no h ↦ g (omega arith) ]

pub decide : (t : Bool) → T t ⊎ T (not t)
decide true = inl tt
decide false = inr tt

-- 0 is not 1: what comes of two constructors that would be one
pub apart {ℓ} : {A : Type ℓ} → ◌≡◌ {A = ℕ} 0 1 → A
apart e = absurd (omega arith)

-- an answer that can be read back says what it came of
pub came_of : {A R : Type 0} (f : A → R) (back : R → A) → ((a : A) → back (f a) ≡ a) → (a : A) {r : R} → f a ≡ r → a ≡ back r
came_of f back same a e = sym (same a) ∙ ap back e

-- ---- `T` and equations

pub is_true : (t : Bool) → T t → t ≡ true
is_true true h = refl
is_true false h = elim h [ ]

pub is_false : (t : Bool) → T (not t) → t ≡ false
is_false false h = refl
is_false true h = elim h [ ]

pub true_is : {t : Bool} → t ≡ true → T t
true_is e = rw e tt

pub false_is : {t : Bool} → t ≡ false → T (not t)
false_is e = rw e tt

-- ---- tests joined

pub both : (p q : Bool) → p && q ≡ true → (p ≡ true) × (q ≡ true)
both true true h = (refl, refl)
both true false h = (refl, h)
both false true h = (h, refl)
both false false h = (h, h)

pub and_l : (a b : Bool) → T (a && b) → T a
and_l true b t = tt
and_l false b t = elim t [ ]

pub and_r : (a b : Bool) → T (a && b) → T b
and_r true b t = t
and_r false b t = elim t [ ]

pub and_i : (a b : Bool) → T a → T b → T (a && b)
and_i true b s t = t
and_i false b s t = elim s [ ]

pub or_cases : (a b : Bool) → T (a || b) → T a ⊎ T b
or_cases true b t = inl tt
or_cases false b t = inr t

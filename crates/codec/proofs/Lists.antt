-- Every element of a list; every two of them in order; the first that passes a test.
use Prim.Native.Nat.{ℕ, zero, suc, ◌<◌}
use mathlib.Core.Path.{◌≡◌, refl, sym, subst, ◌∙◌}
use mathlib.Core.List.Memᴰ
use mathlib.Core.List.{List, [], ◌∷◌, ◌++◌, map, head?, Memᴰ}
use mathlib.Core.Bool.{Bool, not}
use mathlib.Core.Option.{Option, none, some, none-ne-some}
use mathlib.Core.Logic.{⊎_elim}
use native.Mathlib.Omega.{arith}
use lib.Dec.{T}
use lib.ListN.{length, get_or, take, drop}
use Rattle.codec.specs.Maybe.{first}
use Rattle.codec.proofs.Prelude.{is_true, is_false, decide}

pub no_length : {A : Type 0} (xs : List A) → length xs ≡ 0 → xs ≡ []
no_length [] e = refl
no_length (x ∷ xs) e = absurd (omega arith)

-- all are below a bound
abbrev pub Below : ℕ → List ℕ → Type 0
Below m [] = Unit {0}
Below m (b ∷ bs) = (b < m) × Below m bs

pub below_all : (m : ℕ) (s : List ℕ) → ((i : ℕ) → get_or s i 0 < m) → Below m s
below_all m [] h = tt
below_all m (b ∷ bs) h = (h 0, below_all m bs (λ i. h (suc i)))

pub below_take : (m n : ℕ) (s : List ℕ) → Below m s → Below m (take n s)
below_take m zero s h = tt
below_take m (suc n) [] h = tt
below_take m (suc n) (b ∷ bs) h = (h.0, below_take m n bs h.1)

pub below_drop : (m n : ℕ) (s : List ℕ) → Below m s → Below m (drop n s)
below_drop m zero s h = h
below_drop m (suc n) [] h = tt
below_drop m (suc n) (b ∷ bs) h = below_drop m n bs h.1

pub data All {A : Type 0} (P : A → Type 0) : List A → Type 0 where
  nil : All P []
  cons : {x : A} {xs : List A} → P x → All P xs → All P (x ∷ xs)

-- R holds of every element and every later one
pub data Pairs {A : Type 0} (R : A → A → Type 0) : List A → Type 0 where
  nil : Pairs R []
  cons : {x : A} {xs : List A} → All (R x) xs → Pairs R xs → Pairs R (x ∷ xs)

module _ {A : Type 0} {P : A → Type 0} where
  pub all_head : {x : A} {xs : List A} → All P (x ∷ xs) → P x
  all_head (All.cons p ps) = p

  pub all_append : {xs ys : List A} → All P xs → All P ys → All P (xs ++ ys)
  all_append All.nil q = q
  all_append (All.cons p ps) q = All.cons p (all_append ps q)

  pub all_mem : {x : A} {xs : List A} → All P xs → Memᴰ x xs → P x
  all_mem (All.cons p ps) (Memᴰ.head e) = subst P (sym e) p
  all_mem (All.cons p ps) (Memᴰ.tail m) = all_mem ps m
  all_mem All.nil m = elim m [ ]

  pub all_of : (xs : List A) → ((x : A) → Memᴰ x xs → P x) → All P xs
  all_of [] f = All.nil
  all_of (x ∷ xs) f = All.cons (f x (Memᴰ.head refl)) (all_of xs (λ y m. f y (Memᴰ.tail m)))

  pub all_imp : {Q : A → Type 0} {xs : List A} → ((x : A) → P x → Q x) → All P xs → All Q xs
  all_imp f All.nil = All.nil
  all_imp f (All.cons p ps) = All.cons (f _ p) (all_imp f ps)

-- an element of a mapped list is the map of one
pub mem_unmap : {A B : Type 0} (f : A → B) (xs : List A) {b : B} → Memᴰ b (map f xs) → (a : A) × Memᴰ a xs × (b ≡ f a)
mem_unmap f (x ∷ xs) (Memᴰ.head e) = (x, Memᴰ.head refl, e)
mem_unmap f (x ∷ xs) (Memᴰ.tail m) = let r = mem_unmap f xs m in (r.0, Memᴰ.tail r.1, r.2)
mem_unmap {A = A} {B = B} f [] {b = b} x' = elim x' [ ]

pub all_map : {A B : Type 0} {P : B → Type 0} (f : A → B) {xs : List A} → All (λ x. P (f x)) xs → All P (map f xs)
all_map f All.nil = All.nil
all_map f (All.cons p ps) = All.cons p (all_map f ps)

pub pairs_map : {A B : Type 0} {R : B → B → Type 0} (f : A → B) {xs : List A} → Pairs (λ x y. R (f x) (f y)) xs → Pairs R (map f xs)
pairs_map f Pairs.nil = Pairs.nil
pairs_map f (Pairs.cons p ps) = Pairs.cons (all_map f p) (pairs_map f ps)

pub pairs_append : {A : Type 0} {R : A → A → Type 0} {xs ys : List A} → Pairs R xs → All (λ x. All (R x) ys) xs → Pairs R ys → Pairs R (xs ++ ys)
pairs_append Pairs.nil All.nil q = q
pairs_append (Pairs.cons p ps) (All.cons r rs) q = Pairs.cons (all_append p r) (pairs_append ps rs q)

pub pairs_imp : {A : Type 0} {R S : A → A → Type 0} {xs : List A} → ((x y : A) → R x y → S x y) → Pairs R xs → Pairs S xs
pairs_imp f Pairs.nil = Pairs.nil
pairs_imp f (Pairs.cons q qs) = Pairs.cons (all_imp (λ y r. f _ y r) q) (pairs_imp f qs)

-- so of any two that stand one before the other
pub pairs_at : {A : Type 0} {R : A → A → Type 0} (bs : List A) {x : A} (cs : List A) {y : A} (ds : List A) → Pairs R (bs ++ (x ∷ (cs ++ (y ∷ ds)))) → R x y
pairs_at [] cs ds (Pairs.cons p ps) = all_mem p (Memᴰ.append_right cs (Memᴰ.head refl))
pairs_at (b ∷ bs) cs ds (Pairs.cons p ps) = pairs_at bs cs ds ps

-- ---- the first that passes a test

abbrev pub or_else : {A : Type 0} → Option A → Option A → Option A
or_else none b = b
or_else (some a) b = some a

module _ {A : Type 0} (f : A → Bool) where
  pub first_yes : (x : A) (xs : List A) → T (f x) → first f (x ∷ xs) ≡ some x
  unfolding first
  first_yes x xs t = rw (is_true (f x) t, first)

  pub first_no : (x : A) (xs : List A) → T (not (f x)) → first f (x ∷ xs) ≡ first f xs
  unfolding first
  first_no x xs t = rw (is_false (f x) t, first)

  pub first_append : (xs ys : List A) → first f (xs ++ ys) ≡ or_else (first f xs) (first f ys)
  unfolding first
  first_append [] ys = refl
  first_append (x ∷ xs) ys =
      ⊎_elim
      (λ t. rw (first_yes x xs t, first_yes x (xs ++ ys) t))
      (λ t. rw (first_no x xs t, first_no x (xs ++ ys) t) (first_append xs ys))
      (decide (f x))

  pub first_none : {xs : List A} → All (λ (x : A). T (not (f x))) xs → first f xs ≡ none
  unfolding first
  first_none All.nil = refl
  first_none (All.cons {x = x} {xs = xs} t ts) = first_no x xs t ∙ first_none ts

  pub none_first : (xs : List A) → first f xs ≡ none → All (λ (x : A). T (not (f x))) xs
  none_first [] e = All.nil
  none_first (x ∷ xs) e =
      ⊎_elim (λ t. absurd (none-ne-some x (sym e ∙ first_yes x xs t))) (λ t. All.cons t (none_first xs (sym (first_no x xs t) ∙ e))) (decide (f x))

  pub first_all : {xs : List A} → All (λ (x : A). T (f x)) xs → first f xs ≡ head? xs
  unfolding first
  first_all All.nil = refl
  first_all (All.cons {x = x} {xs = xs} t ts) = first_yes x xs t

  pub first_some : {x : A} {xs : List A} → Memᴰ x xs → T (f x) → (y : A) × (first f xs ≡ some y)
  first_some {x} (Memᴰ.head {x = y} {xs = ys} e) t = (y, first_yes y ys (rw e at t))
  first_some {x} (Memᴰ.tail {x = y} {xs = ys} m) t =
      ⊎_elim (λ s. (y, first_yes y ys s)) (λ s. let r = first_some m t in (r.0, first_no y ys s ∙ r.1)) (decide (f y))

-- The laws of the orders by bytes and by points: strict and total.
use Prim.Native.Nat.compare
use Prim.Native.Nat.{ℕ, zero, suc, ◌≤◌, ◌<◌, compare, Ordering}
use mathlib.Core.Path.{◌≡◌, refl, sym, ap, ap₂, ◌∙◌}
use mathlib.Core.Logic.{◌⊎◌, inl, inr}
use mathlib.Core.List.{List, [], ◌∷◌}
use mathlib.Core.Bool.{Bool, true, false, ◌&&◌, not, not-not}
use native.Mathlib.Omega.{arith}
use lib.Dec.{T, is_le, leb, compare_is_eq, eqb→eq, leb→le, le→leb, T_not}
use Rattle.codec.proofs.Prelude.{is_true, is_false}
use Rattle.keys.specs.Order.{and_then, is_less, by_bytes, Point, point_of, by_point, below}

-- ---- comparisons: how the answers on (a, b), (b, c) and (a, c) hang together

abbrev pub turned : Ordering → Ordering
turned Ordering.lt = Ordering.gt
turned Ordering.eq = Ordering.eq
turned Ordering.gt = Ordering.lt

abbrev pub Joins : Ordering → Ordering → Ordering → Type 0
Joins Ordering.lt Ordering.lt o = o ≡ Ordering.lt
Joins Ordering.lt Ordering.eq o = o ≡ Ordering.lt
Joins Ordering.lt Ordering.gt o = Unit {0}
Joins Ordering.eq p o = o ≡ p
Joins Ordering.gt Ordering.lt o = Unit {0}
Joins Ordering.gt Ordering.eq o = o ≡ Ordering.gt
Joins Ordering.gt Ordering.gt o = o ≡ Ordering.gt

turned_then : (o p : Ordering) → and_then (turned o) (turned p) ≡ turned (and_then o p)
turned_then Ordering.lt p = refl
turned_then Ordering.eq p = refl
turned_then Ordering.gt p = refl

joins_turned : (o p q : Ordering) → Joins o p q → Joins (turned o) (turned p) (turned q)
joins_turned Ordering.lt Ordering.lt q j = ap turned j
joins_turned Ordering.lt Ordering.eq q j = ap turned j
joins_turned Ordering.lt Ordering.gt q j = tt
joins_turned Ordering.eq p q j = ap turned j
joins_turned Ordering.gt Ordering.lt q j = tt
joins_turned Ordering.gt Ordering.eq q j = ap turned j
joins_turned Ordering.gt Ordering.gt q j = ap turned j

joins_then : (o₁ o₂ o₃ p₁ p₂ p₃ : Ordering) → Joins o₁ o₂ o₃ → Joins p₁ p₂ p₃ → Joins (and_then o₁ p₁) (and_then o₂ p₂) (and_then o₃ p₃)
joins_then Ordering.lt Ordering.lt o₃ p₁ p₂ p₃ j k = ap (λ o. and_then o p₃) j
joins_then Ordering.lt Ordering.eq o₃ p₁ Ordering.lt p₃ j k = ap (λ o. and_then o p₃) j
joins_then Ordering.lt Ordering.eq o₃ p₁ Ordering.eq p₃ j k = ap (λ o. and_then o p₃) j
joins_then Ordering.lt Ordering.eq o₃ p₁ Ordering.gt p₃ j k = tt
joins_then Ordering.lt Ordering.gt o₃ p₁ p₂ p₃ j k = tt
joins_then Ordering.eq Ordering.lt o₃ Ordering.lt p₂ p₃ j k = ap (λ o. and_then o p₃) j
joins_then Ordering.eq Ordering.lt o₃ Ordering.eq p₂ p₃ j k = ap (λ o. and_then o p₃) j
joins_then Ordering.eq Ordering.lt o₃ Ordering.gt p₂ p₃ j k = tt
joins_then Ordering.eq Ordering.eq o₃ p₁ p₂ p₃ j k = rw j k
joins_then Ordering.eq Ordering.gt o₃ Ordering.lt p₂ p₃ j k = tt
joins_then Ordering.eq Ordering.gt o₃ Ordering.eq p₂ p₃ j k = ap (λ o. and_then o p₃) j
joins_then Ordering.eq Ordering.gt o₃ Ordering.gt p₂ p₃ j k = ap (λ o. and_then o p₃) j
joins_then Ordering.gt Ordering.lt o₃ p₁ p₂ p₃ j k = tt
joins_then Ordering.gt Ordering.eq o₃ p₁ Ordering.lt p₃ j k = tt
joins_then Ordering.gt Ordering.eq o₃ p₁ Ordering.eq p₃ j k = ap (λ o. and_then o p₃) j
joins_then Ordering.gt Ordering.eq o₃ p₁ Ordering.gt p₃ j k = ap (λ o. and_then o p₃) j
joins_then Ordering.gt Ordering.gt o₃ p₁ p₂ p₃ j k = ap (λ o. and_then o p₃) j

-- ---- numbers

compare_turned : (x y : ℕ) → compare y x ≡ turned (compare x y)
compare_turned zero zero = refl
compare_turned zero (suc y) = simp (compare.zero-suc, compare.suc-zero)
compare_turned (suc x) zero = simp (compare.zero-suc, compare.suc-zero)
compare_turned (suc x) (suc y) = simp compare.suc-suc (compare_turned x y)

joins_less : (o : Ordering) → Joins Ordering.lt o Ordering.lt
joins_less Ordering.lt = refl
joins_less Ordering.eq = refl
joins_less Ordering.gt = tt

joins_more : (o : Ordering) → Joins o Ordering.gt Ordering.gt
joins_more Ordering.lt = tt
joins_more Ordering.eq = refl
joins_more Ordering.gt = refl

compare_joins : (x y z : ℕ) → Joins (compare x y) (compare y z) (compare x z)
compare_joins zero zero z = refl
compare_joins zero (suc y) zero = simp (compare.zero-suc, compare.suc-zero) tt
compare_joins zero (suc y) (suc z) = simp compare.zero-suc (joins_less (compare (suc y) (suc z)))
compare_joins (suc x) zero zero = simp (compare.suc-zero)
compare_joins (suc x) zero (suc z) = simp (compare.zero-suc, compare.suc-zero) tt
compare_joins (suc x) (suc y) zero = simp compare.suc-zero (joins_more (compare (suc x) (suc y)))
compare_joins (suc x) (suc y) (suc z) = simp compare.suc-suc (compare_joins x y z)

pub compare_eq : (x y : ℕ) → compare x y ≡ Ordering.eq → x ≡ y
compare_eq x y e = eqb→eq x y (rw e tt)

pub compare_lt : (x y : ℕ) → x < y → compare x y ≡ Ordering.lt
compare_lt zero zero h = absurd (omega arith)
compare_lt zero (suc y) h = compare.zero-suc y
compare_lt (suc x) zero h = absurd (omega arith)
compare_lt (suc x) (suc y) h = simp compare.suc-suc (compare_lt x y (omega arith))

pub compare_gt : (x y : ℕ) → y < x → compare x y ≡ Ordering.gt
compare_gt x y h = compare_turned y x ∙ ap turned (compare_lt y x h)

pub compare_same : (x : ℕ) → compare x x ≡ Ordering.eq
compare_same zero = refl
compare_same (suc x) = simp compare.suc-suc (compare_same x)

pub compare_is : (x y : ℕ) → x ≡ y → compare x y ≡ Ordering.eq
compare_is x y e = rw e (compare_same y)

-- ---- bytes

pub bytes_turned : (a b : List ℕ) → by_bytes b a ≡ turned (by_bytes a b)
unfolding by_bytes
bytes_turned [] [] = refl
bytes_turned [] (y ∷ ys) = refl
bytes_turned (x ∷ xs) [] = refl
bytes_turned (x ∷ xs) (y ∷ ys) = rw (compare_turned x y, bytes_turned xs ys) (turned_then (compare x y) (by_bytes xs ys))

pub bytes_joins : (a b c : List ℕ) → Joins (by_bytes a b) (by_bytes b c) (by_bytes a c)
unfolding by_bytes
bytes_joins [] [] c = refl
bytes_joins [] (y ∷ ys) [] = tt
bytes_joins [] (y ∷ ys) (z ∷ zs) = joins_less (by_bytes (y ∷ ys) (z ∷ zs))
bytes_joins (x ∷ xs) [] [] = refl
bytes_joins (x ∷ xs) [] (z ∷ zs) = tt
bytes_joins (x ∷ xs) (y ∷ ys) [] = joins_more (by_bytes (x ∷ xs) (y ∷ ys))
bytes_joins (x ∷ xs) (y ∷ ys) (z ∷ zs) =
    joins_then (compare x y) (compare y z) (compare x z) (by_bytes xs ys) (by_bytes ys zs) (by_bytes xs zs) (compare_joins x y z) (bytes_joins xs ys zs)

then_eq : (o p : Ordering) → and_then o p ≡ Ordering.eq → (o ≡ Ordering.eq) × (p ≡ Ordering.eq)
then_eq Ordering.lt p e = (e, cc)
then_eq Ordering.eq p e = (refl, e)
then_eq Ordering.gt p e = (e, cc)

pub bytes_eq : (a b : List ℕ) → by_bytes a b ≡ Ordering.eq → a ≡ b
unfolding by_bytes
bytes_eq [] [] e = refl
bytes_eq [] (y ∷ ys) e = cc
bytes_eq (x ∷ xs) [] e = cc
bytes_eq (x ∷ xs) (y ∷ ys) e =
    let p = then_eq (compare x y) (by_bytes xs ys) e in ap₂ ◌∷◌ (compare_eq x y p.0) (bytes_eq xs ys p.1)

pub bytes_same : (a : List ℕ) → by_bytes a a ≡ Ordering.eq
unfolding by_bytes
bytes_same [] = refl
bytes_same (x ∷ xs) = rw (compare_same x, bytes_same xs)

-- ---- points

pub point_turned : (a b : Point) → by_point b a ≡ turned (by_point a b)
unfolding by_point
point_turned a b =
    rw (bytes_turned a.word b.word, compare_turned b.edition a.edition) (turned_then (by_bytes a.word b.word) (compare b.edition a.edition))

-- the editions are compared the other way round
pub point_joins : (a b c : Point) → Joins (by_point a b) (by_point b c) (by_point a c)
unfolding by_point
point_joins a b c =
    joins_then (by_bytes a.word b.word) (by_bytes b.word c.word) (by_bytes a.word c.word)
    (compare b.edition a.edition) (compare c.edition b.edition) (compare c.edition a.edition) (bytes_joins a.word b.word c.word)
    (rw (compare_turned a.edition b.edition, compare_turned b.edition c.edition, compare_turned a.edition c.edition)
    (joins_turned (compare a.edition b.edition) (compare b.edition c.edition) (compare a.edition c.edition) (compare_joins a.edition b.edition c.edition)))

pub point_same : (a : Point) → by_point a a ≡ Ordering.eq
unfolding by_point
point_same a = rw (bytes_same a.word, compare_same a.edition)

pub is_eq_eq : (o : Ordering) → T (compare_is_eq o) → o ≡ Ordering.eq
is_eq_eq Ordering.eq t = refl
is_eq_eq Ordering.lt t = elim t [ ]
is_eq_eq Ordering.gt t = elim t [ ]

-- ---- an order by a comparison, as a proposition whose two sides antt can infer

pub record Lawful {A : Type 0} (by : A → A → Ordering) : Type 0 where
  pub turn : (a b : A) → by b a ≡ turned (by a b)
  pub join : (a b c : A) → Joins (by a b) (by b c) (by a c)

pub record Less {A : Type 0} (by : A → A → Ordering) (a b : A) : Type 0 where
  pub is : T (is_less (by a b))

pub record UpTo {A : Type 0} (by : A → A → Ordering) (a b : A) : Type 0 where
  pub is : T (not (is_less (by b a)))

less_less : (o p q : Ordering) → Joins o p q → T (is_less o) → T (is_less p) → T (is_less q)
less_less Ordering.lt Ordering.lt q j s t = rw j tt
less_less Ordering.lt Ordering.eq q j s t = elim t [ ]
less_less Ordering.lt Ordering.gt q j s t = elim t [ ]
less_less Ordering.eq p q j s t = elim s [ ]
less_less Ordering.gt p q j s t = elim s [ ]

less_up_to' : (o p q : Ordering) → Joins o p q → T (is_less o) → T (not (is_less (turned p))) → T (is_less q)
less_up_to' Ordering.lt Ordering.lt q j s t = rw j tt
less_up_to' Ordering.lt Ordering.eq q j s t = rw j tt
less_up_to' Ordering.lt Ordering.gt q j s t = elim t [ ]
less_up_to' Ordering.eq p q j s t = elim s [ ]
less_up_to' Ordering.gt p q j s t = elim s [ ]

up_to_less : (o p q : Ordering) → Joins o p q → T (not (is_less (turned o))) → T (is_less p) → T (is_less q)
up_to_less Ordering.lt Ordering.lt q j s t = rw j tt
up_to_less Ordering.eq p q j s t = rw j t
up_to_less Ordering.lt Ordering.eq q j s t = elim t [ ]
up_to_less Ordering.lt Ordering.gt q j s t = elim t [ ]
up_to_less Ordering.gt p q j s t = elim s [ ]

up_to_up_to : (o p q : Ordering) → Joins o p q → T (not (is_less (turned o))) → T (not (is_less (turned p))) → T (not (is_less (turned q)))
up_to_up_to Ordering.lt Ordering.lt q j s t = rw j tt
up_to_up_to Ordering.lt Ordering.eq q j s t = rw j tt
up_to_up_to Ordering.eq p q j s t = rw j t
up_to_up_to Ordering.lt Ordering.gt q j s t = elim t [ ]
up_to_up_to Ordering.gt p q j s t = elim s [ ]

less_is_up_to : (o : Ordering) → T (is_less o) → T (not (is_less (turned o)))
less_is_up_to Ordering.lt s = tt
less_is_up_to Ordering.eq s = elim s [ ]
less_is_up_to Ordering.gt s = elim s [ ]

module _ {A : Type 0} {by : A → A → Ordering} (laws : Lawful by) where
  pub less_trans : {a b c : A} → Less by a b → Less by b c → Less by a c
  less_trans {a} {b} {c} s t = record { is = less_less (by a b) (by b c) (by a c) (laws.join a b c) s.is t.is }

  pub less_up_to_trans : {a b c : A} → Less by a b → UpTo by b c → Less by a c
  less_up_to_trans {a} {b} {c} s t =
      record { is = less_up_to' (by a b) (by b c) (by a c) (laws.join a b c) s.is (rw (laws.turn b c) at t.is) }

  pub up_to_less_trans : {a b c : A} → UpTo by a b → Less by b c → Less by a c
  up_to_less_trans {a} {b} {c} s t =
      record { is = up_to_less (by a b) (by b c) (by a c) (laws.join a b c) (rw (laws.turn a b) at s.is) t.is }

  pub up_to_trans : {a b c : A} → UpTo by a b → UpTo by b c → UpTo by a c
  up_to_trans {a} {b} {c} s t =
      record {
        is = rw (laws.turn a c)
            (up_to_up_to (by a b) (by b c) (by a c) (laws.join a b c) (rw (laws.turn a b) at s.is) (rw (laws.turn b c) at t.is));
      }

  pub less_up_to : {a b : A} → Less by a b → UpTo by a b
  less_up_to {a} {b} s = record { is = rw (laws.turn a b) (less_is_up_to (by a b) s.is) }

  pub same_up_to : {a b : A} → by a b ≡ Ordering.eq → UpTo by a b
  same_up_to {a} {b} e = record { is = rw (laws.turn a b, e) tt }

  -- of two, one is less, or they are equal, or the other is less
  pub three_ways : (a b : A) → Less by a b ⊎ ((by a b ≡ Ordering.eq) ⊎ Less by b a)
  three_ways a b = go (by a b) refl
    where
      go : (o : Ordering) → by a b ≡ o → Less by a b ⊎ ((by a b ≡ Ordering.eq) ⊎ Less by b a)
      go Ordering.lt e = inl (record { is = rw e tt })
      go Ordering.eq e = inr (inl e)
      go Ordering.gt e = inr (inr (record { is = rw (laws.turn a b, e) tt }))

pub less_or : {A : Type 0} (by : A → A → Ordering) (a b : A) → Less by a b ⊎ UpTo by b a
less_or by a b = go (is_less (by a b)) refl
  where
    go : (t : Bool) → is_less (by a b) ≡ t → Less by a b ⊎ UpTo by b a
    go true e = inl (record { is = rw e tt })
    go false e = inr (record { is = rw e tt })

pub less_not_up_to : {A : Type 0} {by : A → A → Ordering} {a b : A} → Less by a b → UpTo by b a → ⊥
less_not_up_to {by = by} {a = a} {b = b} s t = T_not (is_less (by a b)) t.is s.is

-- ---- the two orders

pub bytes_laws : Lawful by_bytes
bytes_laws = record { turn = bytes_turned; join = bytes_joins }

pub point_laws : Lawful by_point
point_laws = record { turn = point_turned; join = point_joins }

infix 40 ◌≺◌ ◌≼◌
abbrev pub ◌≺◌ : Point → Point → Type 0
a ≺ b = Less by_point a b

abbrev pub ◌≼◌ : Point → Point → Type 0
a ≼ b = UpTo by_point a b

pub ≼-self : (a : Point) → a ≼ a
≼-self a = same_up_to point_laws (point_same a)

pub ≺-trans : {a b c : Point} → a ≺ b → b ≺ c → a ≺ c
≺-trans = less_trans point_laws

pub ≺-≼ : {a b c : Point} → a ≺ b → b ≼ c → a ≺ c
≺-≼ = less_up_to_trans point_laws

pub ≼-≺ : {a b c : Point} → a ≼ b → b ≺ c → a ≺ c
≼-≺ = up_to_less_trans point_laws

pub ≼_trans : {a b c : Point} → a ≼ b → b ≼ c → a ≼ c
≼_trans = up_to_trans point_laws

pub ≺-weak : {a b : Point} → a ≺ b → a ≼ b
≺-weak = less_up_to point_laws

-- `search chain` finds a chain of these among the hypotheses
pub ruleset chain = (≺-trans, ≺-≼, ≼-≺, ≼_trans, ≺-weak, ≼-self)

-- ---- users and sequences

less_turned : (o : Ordering) → is_less o ≡ not (is_le (turned o))
less_turned Ordering.lt = refl
less_turned Ordering.eq = refl
less_turned Ordering.gt = refl

up_to_leb : (x y : ℕ) → not (is_less (compare y x)) ≡ leb x y
up_to_leb x y = rw (less_turned (compare y x), ← compare_turned y x) (not-not (leb x y))

pub compare_up_to : (x y : ℕ) → T (not (is_less (compare y x))) → x ≤ y
compare_up_to x y t = leb→le x y (rw (up_to_leb x y) at t)

pub up_to_compare : (x y : ℕ) → x ≤ y → T (not (is_less (compare y x)))
up_to_compare x y h = rw (up_to_leb x y) (le→leb x y h)

-- of points of one word
by_edition : (a b : Point) → a.word ≡ b.word → by_point a b ≡ compare b.edition a.edition
unfolding by_point
by_edition a b u = rw (u, bytes_same b.word)

pub ≼-edition : {a b : Point} → a.word ≡ b.word → a ≼ b → b.edition ≤ a.edition
≼-edition {a} {b} u s = compare_up_to b.edition a.edition (rw (by_edition b a (sym u)) at s.is)

pub edition-≼ : {a b : Point} → a.word ≡ b.word → b.edition ≤ a.edition → a ≼ b
edition-≼ {a} {b} u h = record { is = rw (by_edition b a (sym u)) (up_to_compare b.edition a.edition h) }

then_not_less : (o p : Ordering) → T (not (is_less (and_then o p))) → T (not (is_less o))
then_not_less Ordering.eq p t = tt
then_not_less Ordering.gt p t = tt
then_not_less Ordering.lt p t = elim t [ ]

pub ≼-word : {a b : Point} → a ≼ b → UpTo by_bytes a.word b.word
unfolding by_point
≼-word {a} {b} s = record { is = then_not_less (by_bytes b.word a.word) (compare a.edition b.edition) s.is }

-- ---- the same, said of `below`

pub below_less : (a b : List ℕ) → below a b ≡ true → point_of a ≺ point_of b
unfolding below
below_less a b h = record { is = rw h tt }

pub less_below : (a b : List ℕ) → point_of a ≺ point_of b → below a b ≡ true
unfolding below
less_below a b h = is_true (is_less (by_point (point_of a) (point_of b))) h.is

pub not_below_up_to : (a b : List ℕ) → below b a ≡ false → point_of a ≼ point_of b
unfolding below
not_below_up_to a b h = record { is = rw h tt }

pub up_to_not_below : (a b : List ℕ) → point_of a ≼ point_of b → below b a ≡ false
unfolding below
up_to_not_below a b h = is_false (is_less (by_point (point_of b) (point_of a))) h.is

pub below_itself : (a : List ℕ) → below a a ≡ false
below_itself a = up_to_not_below a a (≼-self (point_of a))

pub below_trans : (a b c : List ℕ) → below a b ≡ true → below b c ≡ true → below a c ≡ true
below_trans a b c s t = less_below a c (≺-trans (below_less a b s) (below_less b c t))

-- a < b ≤ c
pub below_le : (a b c : List ℕ) → below a b ≡ true → below c b ≡ false → below a c ≡ true
below_le a b c s t = less_below a c (≺-≼ (below_less a b s) (not_below_up_to b c t))

-- two are equal where neither is below the other
pub neither_below : (a b : List ℕ) {s t : Bool} → s ≡ below a b → t ≡ below b a → not s && not t ≡ compare_is_eq (by_point (point_of a) (point_of b))
unfolding below
neither_below a b e f = rw (e, f, point_turned (point_of a) (point_of b)) (go (by_point (point_of a) (point_of b)))
  where
    go : (o : Ordering) → not (is_less o) && not (is_less (turned o)) ≡ compare_is_eq o
    go Ordering.lt = refl
    go Ordering.eq = refl
    go Ordering.gt = refl

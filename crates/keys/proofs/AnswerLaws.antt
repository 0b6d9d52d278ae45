-- What the code answers and writes of keys, against the definitions: comparisons, kinds, tags.
use Prim.Native.Nat.{ℕ, zero, suc, ◌+◌, ◌*◌, ◌-◌, ◌/◌, ◌%◌, ◌^◌, ◌≤◌, ◌<◌, compare, Ordering}
use mathlib.Core.Path.{◌≡◌, refl, sym, ap, ap₂, ◌∙◌}
use mathlib.Core.Bool.{Bool}
use mathlib.Core.List.{List, [], ◌∷◌, ◌++◌}
use native.Mathlib.Omega.{arith}
use lib.ListN.{length, drop}
use borrow.Author.Tests.{lt-ltb, le-ltb, eq-eqb, ne_eqb}
use Rattle.codec.specs.Bytes.{bytes_of, number_of}
use Rattle.codec.proofs.Prelude.{split}
use Rattle.codec.proofs.Lists.{Below}
use Rattle.codec.proofs.BytesLaws.{bytes_above}
use Rattle.std.specs.Prelude.{None, Some}
use Rattle.std.specs.Ordering.{nat_cmp, ordering_then}
use Rattle.std.specs.declared.cmp.Ordering as OrderingEnum
use Rattle.std.specs.declared.cmp.Ordering.TheVariants.{Equal}
use Rattle.keys.specs.declared.key_types.ValueType.{ValueType}
use Rattle.keys.specs.declared.key_types.ValueType.TheVariants.{TypeValue}
use Rattle.keys.specs.Answers.{order_answer, says_less, kind_answer, key_answer}
use Rattle.keys.proofs.OrderLaws.{compare_lt, compare_gt, compare_same}
use Rattle.keys.specs.Order.{is_less, and_then, by_bytes, user_of, tag_of, seq_of, kind_of, point_of, by_point}

-- ---- comparisons

-- what `cmp` answers of two numbers
pub number_order : (x y : ℕ) → nat_cmp x y ≡ order_answer (compare x y)
unfolding order_answer
number_order x y =
    split x y
    (λ h. rw (lt-ltb x y h, compare_lt x y h))
    (λ h. split y x
    (λ g. rw (le-ltb x y h, ne_eqb x y (λ e. omega arith), compare_gt x y g))
    (λ g. let e : x ≡ y = omega arith in rw (e, le-ltb y y (omega arith), eq-eqb y y refl, compare_same y)))

-- two numbers are ordered as what they stand for
pub number_told : (x y : ℕ) {o : Ordering} {r : OrderingEnum.Ordering} → r ≡ nat_cmp x y → compare x y ≡ o → r ≡ order_answer o
number_told x y e p = e ∙ number_order x y ∙ ap order_answer p

-- the first answer decides, or where it is "equal" the next
module _ (o p : Ordering) {s : OrderingEnum.Ordering} (e : s ≡ order_answer o) where
  pub then_equal : s ≡ Equal → p ≡ and_then o p
  unfolding order_answer
  then_equal q = equal o (sym q ∙ e)
    where
      equal : (o : Ordering) → Equal ≡ order_answer o → p ≡ and_then o p
      equal Ordering.lt h = cc
      equal Ordering.eq h = refl
      equal Ordering.gt h = cc

  pub then_other : (s ≡ Equal → ⊥) → o ≡ and_then o p
  unfolding order_answer
  then_other d = other o (λ h. d (e ∙ h))
    where
      other : (o : Ordering) → (order_answer o ≡ Equal → ⊥) → o ≡ and_then o p
      other Ordering.lt h = refl
      other Ordering.eq h = absurd (h refl)
      other Ordering.gt h = refl

-- one answer and then another
pub then_told : (o p : Ordering) {s t r : OrderingEnum.Ordering} → r ≡ ordering_then s t → s ≡ order_answer o → t ≡ order_answer p → r ≡ order_answer (and_then o p)
unfolding order_answer
then_told o p e f g = e ∙ ap₂ ordering_then f g ∙ both o p
  where
    both : (o p : Ordering) → ordering_then (order_answer o) (order_answer p) ≡ order_answer (and_then o p)
    both Ordering.lt p = refl
    both Ordering.eq p = refl
    both Ordering.gt p = refl

says_less_lem : (o : Ordering) → says_less (order_answer o) ≡ is_less o
unfolding order_answer
says_less_lem Ordering.lt = refl
says_less_lem Ordering.eq = refl
says_less_lem Ordering.gt = refl

-- "less" is said of what is so
pub less_told : (o : Ordering) {a : OrderingEnum.Ordering} {r : Bool} → r ≡ says_less a → a ≡ order_answer o → r ≡ is_less o
less_told o e p = e ∙ ap says_less p ∙ says_less_lem o

-- a key against a target: the words decide, or where they are equal the sequences
module _ (k w : List ℕ) (s : ℕ) {u : List ℕ} (is_u : u ≡ user_of k) {r : OrderingEnum.Ordering} (e : r ≡ order_answer (by_bytes u w)) where
  by_word : and_then (by_bytes u w) (compare s (tag_of k / 256)) ≡ by_point (point_of k) (record { word = w; edition = s })
  unfolding by_point seq_of
  by_word = rw is_u

  pub target_word : (r ≡ Equal → ⊥) → r ≡ order_answer (by_point (point_of k) (record { word = w; edition = s }))
  target_word d = e ∙ ap order_answer (then_other (by_bytes u w) (compare s (tag_of k / 256)) e d ∙ by_word)

  pub target_equal : {t : ℕ} {q : OrderingEnum.Ordering} → r ≡ Equal → t ≡ tag_of k → q ≡ nat_cmp s (t / 256)
      → q ≡ order_answer (by_point (point_of k) (record { word = w; edition = s }))
  target_equal {t} h is_t p =
      number_told s (t / 256) p (ap (λ (t : ℕ). compare s (t / 256)) is_t ∙ then_equal (by_bytes u w) (compare s (tag_of k / 256)) e h ∙ by_word)

-- ---- kinds

pub kind_value : (kind : ℕ) → (kind ≡ 0 → ⊥) → TypeValue ≡ kind_answer kind
unfolding kind_answer
kind_value zero h = absurd (h refl)
kind_value (suc n) h = refl

-- ---- numbers of fewer than eight bytes

number_zero : (s : List ℕ) → Below 1 s → number_of s ≡ 0
unfolding number_of
number_zero [] h = refl
number_zero (x ∷ s) h = omega (arith, h.0, number_zero s h.1)

-- zeros behind bytes add nothing
pub number_padded : (s t : List ℕ) → Below 1 t → number_of (s ++ t) ≡ number_of s
unfolding number_of
number_padded [] t h = number_zero t h
number_padded (x ∷ s) t h = rw (number_padded s t h)

-- ---- the parts of a key, shorter than a tag or not

module _ (k : List ℕ) where
  module _ (short : length k < 8) where
    none_before : length k - 8 ≡ 0
    none_before = omega arith

    pub tag_short : number_of k ≡ tag_of k
    unfolding tag_of
    tag_short = rw none_before

    pub key_short : None ≡ key_answer k
    unfolding key_answer
    key_short = rw (lt-ltb (length k) 8 short, key_answer)

  module _ (long : 8 ≤ length k) where
    pub tag_long : {tag : List ℕ} → tag ≡ drop (length k - 8) k → number_of tag ≡ tag_of k
    unfolding tag_of
    tag_long e = rw e

    pub key_long : {n s : ℕ} {v : ValueType} → n ≡ length k - 8 → s ≡ tag_of k / 256 → v ≡ kind_answer (tag_of k % 256)
        → Some (record { user_len = n; sequence = s; kind = v }) ≡ key_answer k
    unfolding key_answer seq_of kind_of
    key_long p q r = rw (p, q, r, le-ltb (length k) 8 long, key_answer)

-- ---- what is written

-- a tag's sequence, cut to its low 56 bits
pub tag_bytes : (s kind : ℕ) → bytes_of 8 (s % 2 ^ 56 * 256 + kind) ≡ bytes_of 8 (s * 256 + kind)
tag_bytes s kind =
    let e : s * 256 + kind ≡ s % 2 ^ 56 * 256 + kind + 256 ^ 8 * (s / 2 ^ 56) = omega arith in
    rw e (sym (bytes_above 8 (s % 2 ^ 56 * 256 + kind) (s / 2 ^ 56)))

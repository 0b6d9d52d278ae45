-- Bytes compared by several at a time: two numbers of as many bytes, greatest first, are ordered as the bytes are.
use Prim.Native.Nat.{ℕ, zero, suc, ◌+◌, ◌*◌, ◌-◌, ◌^◌, ◌≤◌, ◌<◌, min, compare, Ordering}
use mathlib.Core.Path.{◌≡◌, refl, sym, ap, ap₂, ◌∙◌}
use mathlib.Core.Bool.{false, ◌&&◌, and-false}
use mathlib.Core.List.{List, [], ◌∷◌, ◌++◌}
use native.Mathlib.Nat.{add-zero, add-suc, suc-add, mul-le-mul_right, pow-succ'}
use native.Mathlib.Numerals.{add-one}
use native.Mathlib.Omega.{arith}
use lib.ListN.{length, take, drop, get_or, length-drop}
use lib.Seq.{take-add, take-take, drop-cons, take-suc}
use lib.Dec.{eqb}
use borrow.Author.Tests.{eq-eqb, ne_eqb, eqb-true, eqb-false}
use Rattle.codec.specs.Bytes.{part, same_bytes, common}
use Rattle.codec.proofs.Prelude.{test, split}
use Rattle.codec.proofs.Lists.{Below}
use Rattle.codec.proofs.BytesLaws.{part_length, part_below}
use Rattle.keys.specs.Order.{and_then, by_bytes}
use Rattle.keys.specs.Plan.{big_of}
use Rattle.keys.proofs.OrderLaws.{compare_same, compare_is, compare_eq, compare_lt, compare_gt, bytes_eq, bytes_same}

-- ---- numbers of several bytes, greatest first

big_below : (s : List ℕ) → Below 256 s → big_of s < 256 ^ length s
unfolding big_of
big_below [] h = omega arith
big_below (b ∷ bs) h =
    let r = big_below bs h.1 in
    let m : b * 256 ^ length bs ≤ 255 * 256 ^ length bs = mul-le-mul_right (256 ^ length bs) (omega (arith, h.0)) in
    let e : 256 ^ length (b ∷ bs) ≡ 256 * 256 ^ length bs = pow-succ' 256 (length bs) in
    omega arith

-- w bytes of s from i + j on: the first times its weight, and what the others make
abbrev pub weighed : List ℕ → ℕ → ℕ → ℕ → ℕ
weighed s i j zero = 0
weighed s i j (suc w) = get_or s (i + j) 0 * 256 ^ w + weighed s i (suc j) w

big_part : (w : ℕ) (s : List ℕ) (i j : ℕ) → i + j + w ≤ length s → big_of (part s (i + j) w) ≡ weighed s i j w
unfolding big_of part
big_part zero s i j h = refl
big_part (suc w) s i j h =
    let l : length (take w (drop (i + suc j) s)) ≡ w = part_length s (i + suc j) w (omega arith) in
    rw (drop-cons s (i + j) 0 (omega arith), ← add-suc, l, big_part w s i (suc j) (omega arith))

-- the number at a place, byte by byte
pub big_at : (w : ℕ) (s : List ℕ) (i : ℕ) → i + w ≤ length s → weighed s i 0 w ≡ big_of (part s i w)
big_at w s i h = sym (rw add-zero at (big_part w s i 0 (omega arith)))

-- the greater digits decide, or where they are equal the rest
compare_digits : (p x y r s : ℕ) → r < p → s < p → compare (x * p + r) (y * p + s) ≡ and_then (compare x y) (compare r s)
compare_digits p x y r s hr hs =
    split x y
    (λ h.
    let m : suc x * p ≤ y * p = mul-le-mul_right p h in
    compare_lt (x * p + r) (y * p + s) (omega arith) ∙ sym (ap (λ (o : Ordering). and_then o (compare r s)) (compare_lt x y h)))
    (λ h.
    split y x
    (λ g.
    let m : suc y * p ≤ x * p = mul-le-mul_right p g in
    compare_gt (x * p + r) (y * p + s) (omega arith) ∙ sym (ap (λ (o : Ordering). and_then o (compare r s)) (compare_gt x y g)))
    (λ g.
    let e : x ≡ y = omega arith in
    rw (e, compare_same y) (compare_add (y * p) r s)))
  where
    compare_add : (n r s : ℕ) → compare (n + r) (n + s) ≡ compare r s
    compare_add n r s =
        split r s
        (λ h. compare_lt (n + r) (n + s) (omega arith) ∙ sym (compare_lt r s h))
        (λ h. split s r
        (λ g. compare_gt (n + r) (n + s) (omega arith) ∙ sym (compare_gt r s g))
        (λ g. let e : r ≡ s = omega arith in rw (e, compare_same s) (compare_same (n + s))))

-- of two of one length, the numbers are ordered as the bytes
big_order : (a b : List ℕ) → length a ≡ length b → Below 256 a → Below 256 b → compare (big_of a) (big_of b) ≡ by_bytes a b
unfolding big_of by_bytes
big_order [] [] l h k = compare_same 0
big_order [] (y ∷ b) l h k = absurd (omega arith)
big_order (x ∷ a) [] l h k = absurd (omega arith)
big_order (x ∷ a) (y ∷ b) l h k =
    let e : length b ≡ length a = omega arith in
    let q = rw e at (big_below b k.1) in
    rw e (compare_digits (256 ^ length a) x y (big_of a) (big_of b) (big_below a h.1) q ∙ ap (and_then (compare x y)) (big_order a b (sym e) h.1 k.1))

-- ---- the order by parts

pub then_assoc : (o p q : Ordering) → and_then (and_then o p) q ≡ and_then o (and_then p q)
then_assoc Ordering.lt p q = refl
then_assoc Ordering.eq p q = refl
then_assoc Ordering.gt p q = refl

-- the first w bytes decide, or where they are equal the rest
pub bytes_parts : (w : ℕ) (a b : List ℕ) → w ≤ length a → w ≤ length b → by_bytes a b ≡ and_then (by_bytes (take w a) (take w b)) (by_bytes (drop w a) (drop w b))
unfolding by_bytes
bytes_parts zero a b h k = refl
bytes_parts (suc w) [] b h k = absurd (omega arith)
bytes_parts (suc w) (x ∷ a) [] h k = absurd (omega arith)
bytes_parts (suc w) (x ∷ a) (y ∷ b) h k =
    rw (bytes_parts w a b (omega arith) (omega arith))
    (sym (then_assoc (compare x y) (by_bytes (take w a) (take w b)) (by_bytes (drop w a) (drop w b))))

-- the same up to a place, by another name
pub same_at : (a b : List ℕ) {j k : ℕ} → j ≡ k → take j a ≡ take j b → take k a ≡ take k b
same_at a b e same = rw (← e) same

-- an answer other than equal decides
then_apart : (o p : Ordering) → (o ≡ Ordering.eq → ⊥) → and_then o p ≡ o
then_apart Ordering.lt p h = refl
then_apart Ordering.eq p h = absurd (h refl)
then_apart Ordering.gt p h = refl

-- two that are the same up to k share k bytes, and what they share from there on
common_past : (k : ℕ) (a b : List ℕ) → take k a ≡ take k b → k ≤ length a → k ≤ length b → common a b ≡ k + common (drop k a) (drop k b)
unfolding common
common_past zero a b e ha hb = omega arith
common_past (suc k) [] b e ha hb = absurd (omega arith)
common_past (suc k) (x ∷ a) [] e ha hb = absurd (omega arith)
common_past (suc k) (x ∷ a) (y ∷ b) e ha hb =
    let d : x ≡ y = cc in
    let f : take k a ≡ take k b = cc in
    rw (eq-eqb x y d, common, suc-add) (ap suc (common_past k a b f (omega arith) (omega arith)))

-- two that are the same up to k
module _ (a b : List ℕ) (k : ℕ) (same : take k a ≡ take k b) where
  bytes_from : k ≤ length a → k ≤ length b → by_bytes a b ≡ by_bytes (drop k a) (drop k b)
  bytes_from ha hb = bytes_parts k a b ha hb ∙ rw (same, bytes_same (take k b))

  module _ (w : ℕ) (ha : k + w ≤ length a) (hb : k + w ≤ length b) (bytes_a : Below 256 a) (bytes_b : Below 256 b) where
    part_order : compare (big_of (part a k w)) (big_of (part b k w)) ≡ by_bytes (part a k w) (part b k w)
    part_order =
        big_order (part a k w) (part b k w) (part_length a k w ha ∙ sym (part_length b k w hb)) (part_below 256 a k w bytes_a) (part_below 256 b k w bytes_b)

    module _ {x y : ℕ} (is_x : x ≡ big_of (part a k w)) (is_y : y ≡ big_of (part b k w)) where
      numbers_order : compare x y ≡ by_bytes (part a k w) (part b k w)
      numbers_order = rw (is_x, is_y) part_order

      -- the numbers of the next w bytes decide where they differ
      pub parts_apart : (x ≡ y → ⊥) → compare x y ≡ by_bytes a b
      unfolding part
      parts_apart d =
          let rest = by_bytes (drop w (drop k a)) (drop w (drop k b)) in
          let next : by_bytes (drop k a) (drop k b) ≡ and_then (compare x y) rest =
          bytes_parts w (drop k a) (drop k b) (omega (arith, length-drop k a)) (omega (arith, length-drop k b)) ∙ rw numbers_order in
          sym (bytes_from (omega arith) (omega arith) ∙ next ∙ then_apart (compare x y) rest (λ e. d (compare_eq x y e)))

      -- where they are equal the two are the same further on
      pub parts_same : x ≡ y → take (k + w) a ≡ take (k + w) b
      unfolding part
      parts_same e =
          let p : part a k w ≡ part b k w = bytes_eq (part a k w) (part b k w) (sym numbers_order ∙ compare_is x y e) in
          take-add k w a ∙ ap₂ ◌++◌ same p ∙ sym (take-add k w b)

  -- up to less
  pub same_less : (j : ℕ) → j ≤ k → take j a ≡ take j b
  same_less j h = sym (take-take j k a h) ∙ ap (take j) same ∙ take-take j k b h

  -- where one ends there, the lengths decide
  pub bytes_ended : k ≡ min (length a) (length b) → compare (length a) (length b) ≡ by_bytes a b
  unfolding by_bytes
  bytes_ended e = sym (bytes_from (omega arith) (omega arith) ∙ ended (drop k a) (drop k b) (length-drop k a) (length-drop k b))
    where
      ended : (x y : List ℕ) → length x ≡ length a - k → length y ≡ length b - k → by_bytes x y ≡ compare (length a) (length b)
      ended [] [] p q = let l : length a ≡ length b = omega arith in sym (rw l (compare_same (length b)))
      ended [] (y ∷ ys) p q = sym (compare_lt (length a) (length b) (omega arith))
      ended (x ∷ xs) [] p q = sym (compare_gt (length a) (length b) (omega arith))
      ended (x ∷ xs) (y ∷ ys) p q = absurd (omega arith)

  -- the next byte too
  pub same_next : k < length a → k < length b → get_or a k 0 ≡ get_or b k 0 → take (k + 1) a ≡ take (k + 1) b
  same_next ha hb e = rw (add-one, take-suc a k 0 ha, take-suc b k 0 hb, same, e)

  -- where one ends there, or they differ in the next byte, they share no more
  pub common_ended : k ≡ min (length a) (length b) → k ≡ common a b
  unfolding common
  common_ended e = omega (arith, common_past k a b same (omega arith) (omega arith), none_left (drop k a) (drop k b) (omega (arith, length-drop k a, length-drop k b)))
    where
      none_left : (x y : List ℕ) → min (length x) (length y) ≡ 0 → common x y ≡ 0
      none_left [] y e = refl
      none_left (x ∷ xs) [] e = refl
      none_left (x ∷ xs) (y ∷ ys) e = absurd (omega arith)

  pub common_apart : k < length a → k < length b → (get_or a k 0 ≡ get_or b k 0 → ⊥) → k ≡ common a b
  unfolding common
  common_apart ha hb d =
      let z : common (drop k a) (drop k b) ≡ 0 = rw (drop-cons a k 0 ha, drop-cons b k 0 hb) (unlike (get_or a k 0) (get_or b k 0) (drop (suc k) a) (drop (suc k) b) d) in
      omega (arith, common_past k a b same (omega arith) (omega arith))
    where
      unlike : (x y : ℕ) (xs ys : List ℕ) → (x ≡ y → ⊥) → common (x ∷ xs) (y ∷ ys) ≡ 0
      unlike x y xs ys d = rw (ne_eqb x y d, common)

-- the first byte in which two differ decides
pub bytes_common : (a b : List ℕ) → common a b < length a → common a b < length b → compare (get_or a (common a b) 0) (get_or b (common a b) 0) ≡ by_bytes a b
unfolding common by_bytes
bytes_common [] b ha hb = absurd (omega arith)
bytes_common (x ∷ a) [] ha hb = absurd (omega arith)
bytes_common (x ∷ a) (y ∷ b) ha hb =
    test (eqb x y)
    (λ t.
    let e = eqb-true x y t in
    let m : common (x ∷ a) (y ∷ b) ≡ suc (common a b) = rw (t, common) in
    rw (m, compare_is x y e) (bytes_common a b (omega arith) (omega arith)))
    (λ t.
    let m : common (x ∷ a) (y ∷ b) ≡ 0 = rw (t, common) in
    rw m (sym (then_apart (compare x y) (by_bytes a b) (λ e. eqb-false x y t (compare_eq x y e)))))

-- two are the same where they have one length and share as much
same_shared : (a b : List ℕ) → eqb (length a) (length b) && eqb (common a b) (length a) ≡ same_bytes a b
unfolding same_bytes common
same_shared [] [] = refl
same_shared [] (y ∷ b) = simp Prim.Native.Nat.compare.zero-suc
same_shared (x ∷ a) [] = simp Prim.Native.Nat.compare.suc-zero
same_shared (x ∷ a) (y ∷ b) =
    test (eqb x y)
    (λ t. rw (t, common) (simp Prim.Native.Nat.compare.suc-suc (same_shared a b)))
    (λ t. rw (t, common) (simp (Prim.Native.Nat.compare.zero-suc, and-false)))

module _ (a b : List ℕ) where
  pub lengths_apart : (length a ≡ length b → ⊥) → false ≡ same_bytes a b
  lengths_apart d = rw (ne_eqb (length a) (length b) d) at (same_shared a b)

  pub same_common : length a ≡ length b → {n : ℕ} → n ≡ common a b → eqb n (length a) ≡ same_bytes a b
  same_common e n_is = rw (eq-eqb (length a) (length b) e, ← n_is) at (same_shared a b)

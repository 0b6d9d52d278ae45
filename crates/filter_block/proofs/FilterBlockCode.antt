-- The filter block as the code goes: each test that decides whether a key may match, and whether the block is well formed.
use Prim.Native.Nat.{ℕ, suc, ◌+◌, ◌*◌, ◌-◌, ◌/◌, ◌%◌, ◌^◌, ◌≤◌, ◌<◌}
use mathlib.Core.Path.{◌≡◌, sym}
use mathlib.Core.List.{List, ◌∷◌}
use mathlib.Core.Bool.{true, false, and-false, or-true}
use mathlib.Core.Logic.{◌⊎◌, inl, inr}
use native.Mathlib.Omega.{arith}
use lib.Dec.{leb}
use lib.ListN.{length, take, drop}
use lib.Seq.{drop-drop}
use borrow.Author.Tests.{lt-ltb, le-ltb, le-leb, lt-leb, eq-eqb, ne_eqb}
use Rattle.std.specs.Prelude.{Some}
use Rattle.codec.specs.Bytes.{part, number_of, numbers}
use Rattle.codec.proofs.Prelude.{split}
use Rattle.filter_block.specs.declared.filter_block.Starts.{Starts}
use Rattle.filter_block.specs.Read.{HasStarts, StartsOf}
use Rattle.filters.specs.Filter.{filter_may}
use Rattle.filters.specs.FilterBlock.{base_of, array_of, count_of, start_of, rising, filter_formed, may_match}
use Rattle.filters.proofs.FilterBlockLaws.{may_beyond}

-- ---- whether a key may match: the tests one after the other

module _ (s : List ℕ) (offset h : ℕ) where
  pub may_unread : (HasStarts s → ⊥) → true ≡ may_match s offset h
  unfolding may_match
  may_unread n =
      split (length s) 5
      (λ l. sym (simp (lt-ltb (length s) 5 l)))
      (λ five. split 31 (base_of s)
      (λ l. sym (simp (lt-ltb 31 (base_of s) l, or-true)))
      (λ base. split (length s - 5) (array_of s)
      (λ l. sym (simp (lt-ltb (length s - 5) (array_of s) l, or-true)))
      (λ within. absurd (n (record { long = five; base = base; within = within })))))

  module _ (t : Starts) (r : StartsOf s (Some t)) where
    pub may_count : t.count ≤ offset / 2 ^ t.base → true ≡ may_match s offset h
    may_count l = sym (may_beyond s offset h (rw (← r.2, ← r.3) l))

    module _ (from to : ℕ) (p : from ≡ number_of (part s (t.array + 4 * (offset / 2 ^ t.base)) 4)) (q : to ≡ number_of (part s (t.array + 4 * (offset / 2 ^ t.base + 1)) 4)) where
      from_is : start_of s (offset / 2 ^ base_of s) ≡ from
      unfolding start_of
      from_is = rw (← r.1, ← r.3) (sym p)

      to_is : start_of s (offset / 2 ^ base_of s + 1) ≡ to
      unfolding start_of
      to_is = rw (← r.1, ← r.3) (sym q)

      pub may_wrong : (to < from) ⊎ (t.array < to) → true ≡ may_match s offset h
      unfolding may_match
      may_wrong (inl l) = sym (simp (from_is, to_is, lt-ltb to from l, or-true))
      may_wrong (inr l) = sym (simp (from_is, to_is, ← r.1, lt-ltb t.array to l, or-true))

      pub may_asked : offset / 2 ^ t.base < t.count → from ≤ to → to ≤ t.array → filter_may (take (to - from) (drop from s)) h ≡ may_match s offset h
      unfolding may_match part
      may_asked few up most =
          let f : offset / 2 ^ base_of s < count_of s = rw (← r.2, ← r.3) few in
          let a : to ≤ array_of s = rw (← r.1) most in
          sym
          (simp (
            from_is,
            to_is,
            le-ltb (length s) 5 r.0.long,
            le-ltb 31 (base_of s) r.0.base,
            le-ltb (length s - 5) (array_of s) r.0.within,
            lt-leb (count_of s) (offset / 2 ^ base_of s) f,
            le-ltb to from up,
            le-ltb (array_of s) to a,
          ))

-- ---- whether it is well formed

module _ (s : List ℕ) where
  pub formed_unread : (HasStarts s → ⊥) → false ≡ filter_formed s
  unfolding filter_formed
  formed_unread n =
      split (length s) 5
      (λ l. sym (simp (lt-leb 5 (length s) l)))
      (λ five. split 31 (base_of s)
      (λ l. sym (simp (lt-leb (base_of s) 31 l, and-false)))
      (λ base. split (length s - 5) (array_of s)
      (λ l. sym (simp (lt-leb (array_of s) (length s - 5) l, and-false)))
      (λ within. absurd (n (record { long = five; base = base; within = within })))))

  module _ (t : Starts) (r : StartsOf s (Some t)) where
    pub formed_whole : ((length s - 5 - t.array) % 4 ≡ 0 → ⊥) → false ≡ filter_formed s
    unfolding filter_formed
    formed_whole l = sym (simp (← r.1, ne_eqb ((length s - 5 - t.array) % 4) 0 l, and-false))

    pub formed_rising : (length s - 5 - t.array) % 4 ≡ 0 → rising 0 (numbers t.count (drop t.array s)) t.array ≡ filter_formed s
    unfolding filter_formed
    formed_rising whole =
        let w : (length s - 5 - array_of s) % 4 ≡ 0 = rw (← r.1) whole in
        sym
        (simp (
          le-leb 5 (length s) r.0.long,
          le-leb (base_of s) 31 r.0.base,
          le-leb (array_of s) (length s - 5) r.0.within,
          eq-eqb ((length s - 5 - array_of s) % 4) 0 w,
          ← r.1,
          ← r.2,
        ))

-- the starts from number i on
module _ (s : List ℕ) (low array high count i : ℕ) where
  more_numbers : i < count → numbers (count - i) (drop (array + 4 * i) s) ≡ number_of (part s (array + 4 * i) 4) ∷ numbers (count - (i + 1)) (drop (array + 4 * (i + 1)) s)
  unfolding numbers part
  more_numbers l =
      let e : count - i ≡ suc (count - (i + 1)) = omega arith in
      let d : array + 4 * (i + 1) ≡ array + 4 * i + 4 = omega arith in
      rw (e, d, drop-drop 4 (array + 4 * i) s)

  pub rising_more : (x : ℕ) → x ≡ number_of (part s (array + 4 * i) 4) → i < count → low ≤ x
      → rising x (numbers (count - (i + 1)) (drop (array + 4 * (i + 1)) s)) high ≡ rising low (numbers (count - i) (drop (array + 4 * i) s)) high
  unfolding rising
  rising_more x e l h = rw (more_numbers l, ← e, le-leb low x h)

  pub rising_falls : (x : ℕ) → x ≡ number_of (part s (array + 4 * i) 4) → i < count → x < low → false ≡ rising low (numbers (count - i) (drop (array + 4 * i) s)) high
  unfolding rising
  rising_falls x e l h = rw (more_numbers l, ← e, lt-leb low x h)

  pub rising_none : count ≤ i → leb low high ≡ rising low (numbers (count - i) (drop (array + 4 * i) s)) high
  unfolding rising numbers
  rising_none l = let e : count - i ≡ 0 = omega arith in rw e

-- Separators and successors as the code plans them.
use Prim.Native.Nat.{ℕ, zero, suc, ◌+◌, ◌-◌, ◌≤◌, ◌<◌, compare, Ordering}
use mathlib.Core.Path.{◌≡◌, refl, sym, ap, ap₂, ◌∙◌}
use mathlib.Core.List.{List, [], ◌∷◌, ◌++◌}
use mathlib.Core.Bool.{Bool, true, false, ◌&&◌}
use mathlib.Core.Option.{none, some}
use native.Mathlib.Nat.{suc-add}
use native.Mathlib.Numerals.{add-one}
use native.Mathlib.Omega.{arith}
use lib.Dec.{ltb}
use lib.ListN.{length, take, drop, get_or, length-append, length-take}
use lib.Seq.{take-append_seam, drop-append_seam, drop-cons, split_at}
use borrow.Author.Tests.{lt-ltb, le-ltb, eq-eqb, ne_eqb}
use Rattle.codec.specs.Bytes.{part}
use Rattle.codec.proofs.BytesLaws.{part_length, part_rest}
use Rattle.std.specs.Prelude.{None, Some, MatchOption}
use Rattle.std.specs.Prelude as maybe
use Rattle.std.specs.declared.cmp.Ordering as OrderingEnum
use Rattle.std.specs.declared.cmp.Ordering.TheVariants.{Equal}
use Rattle.keys.specs.declared.cmp.Sep.{Sep}
use Rattle.keys.specs.declared.cmp.Sep.TheVariants.{Whole, Longer, Raised}
use Rattle.keys.specs.Order.{and_then, is_less, by_bytes, bytes_below, user_of, raised_start, raised_last, shortest_sep, user_sep, last_tag, separator, short_succ}
use Rattle.keys.specs.Plan.{raised, Raisable, RaisesFirst, RaisesLast, sep_bytes, SepFits, Planned, FirstLow}
use Rattle.keys.proofs.OrderLaws.{compare_lt, compare_same}
use Rattle.keys.specs.Answers.{order_answer}
use Rattle.keys.proofs.AnswerLaws.{then_equal, then_other}
use Rattle.keys.proofs.CompareLaws.{bytes_parts, then_assoc}

-- ---- front, a byte and back against b

is_less_then : (o p q : Ordering) → is_less p ≡ is_less q → is_less (and_then o p) ≡ is_less (and_then o q)
is_less_then Ordering.lt p q e = refl
is_less_then Ordering.eq p q e = e
is_less_then Ordering.gt p q e = refl

-- b ends within the front: what follows the front is not looked at
pub below_front : (f r b : List ℕ) → length b ≤ length f → bytes_below f b ≡ bytes_below (f ++ r) b
unfolding bytes_below by_bytes
below_front [] [] [] h = refl
below_front [] (x ∷ r) [] h = refl
below_front [] r (y ∷ b) h = absurd (omega arith)
below_front (x ∷ f) r [] h = refl
below_front (x ∷ f) r (y ∷ b) h = is_less_then (compare x y) (by_bytes f b) (by_bytes (f ++ r) b) (below_front f r b (omega arith))

-- b goes on behind the front: the front and then the byte decide, or where they are equal the back
module _ (f : List ℕ) (x : ℕ) (r b : List ℕ) (h : length f < length b) where
  fronts : Ordering
  fronts = and_then (by_bytes f (take (length f) b)) (compare x (get_or b (length f) 0))

  backs : Ordering
  backs = by_bytes r (drop (length f + 1) b)

  joined_order : by_bytes (f ++ (x ∷ r)) b ≡ and_then fronts backs
  unfolding by_bytes fronts backs
  joined_order =
      bytes_parts (length f) (f ++ (x ∷ r)) b (omega (arith, length-append f (x ∷ r))) (omega arith)
      ∙ rw (take-append_seam f (x ∷ r), drop-append_seam f (x ∷ r), drop-cons b (length f) 0 h, add-one (length f))
      (sym (then_assoc (by_bytes f (take (length f) b)) (compare x (get_or b (length f) 0)) (by_bytes r (drop (suc (length f)) b))))

  module _ {s : OrderingEnum.Ordering} (e : s ≡ order_answer (and_then (by_bytes f (take (length f) b)) (compare x (get_or b (length f) 0)))) where
    pub joined_back : s ≡ Equal → is_less (by_bytes r (drop (length f + 1) b)) ≡ bytes_below (f ++ (x ∷ r)) b
    unfolding bytes_below fronts backs
    joined_back q = ap is_less (then_equal fronts backs e q ∙ sym joined_order)

    pub joined_front : (s ≡ Equal → ⊥) → is_less (and_then (by_bytes f (take (length f) b)) (compare x (get_or b (length f) 0))) ≡ bytes_below (f ++ (x ∷ r)) b
    unfolding bytes_below fronts backs
    joined_front d = ap is_less (then_other fronts backs e d ∙ sym joined_order)

-- ---- a byte raised

-- after the same start, the byte raised is above
above : (p : List ℕ) (x : ℕ) (r s : List ℕ) → bytes_below (p ++ (x ∷ r)) (p ++ ((x + 1) ∷ s)) ≡ true
unfolding bytes_below by_bytes
above [] x r s = rw (compare_lt x (x + 1) (omega arith))
above (y ∷ p) x r s = rw (compare_same y) (above p x r s)

module _ (a : List ℕ) (i n : ℕ) (fits : Raisable a i n) where
  pub raised_length : length (raised a i n) ≡ n
  unfolding raised
  raised_length =
      omega (arith, length-append (take i a) ((get_or a i 0 + 1) ∷ part a (i + 1) (n - (i + 1))), length-take i a, part_length a (i + 1) (n - (i + 1)) (omega arith))

  raised_above : bytes_below a (raised a i n) ≡ true
  unfolding raised
  raised_above =
      ap (λ (l : List ℕ). bytes_below l (raised a i n)) (split_at a i 0 (omega arith))
      ∙ above (take i a) (get_or a i 0) (drop (suc i) a) (part a (i + 1) (n - (i + 1)))

pub raised_tagged : (a : List ℕ) (i n : ℕ) → Raisable a i n → length (raised a i n ++ last_tag) ≡ n + 8
unfolding last_tag
raised_tagged a i n f = omega (arith, length-append (raised a i n) last_tag, raised_length a i n f)

raised_first_byte : (x : ℕ) (a : List ℕ) → raised (x ∷ a) 0 (length (x ∷ a)) ≡ (x + 1) ∷ a
unfolding raised part
raised_first_byte x a = ap (λ (l : List ℕ). (x + 1) ∷ l) (part_rest (x ∷ a) 1)

raised_cons : (x : ℕ) (a : List ℕ) (i n : ℕ) → raised (x ∷ a) (suc i) (suc n) ≡ x ∷ raised a i n
unfolding raised part
raised_cons x a i n =
    let e : suc n - suc (i + 1) ≡ n - (i + 1) = omega arith in
    rw (suc-add, e)

-- ---- the first place to raise

start_first : (a b : List ℕ) (n : ℕ) → n < length a → n < length b → get_or a n 0 + 1 < get_or b n 0
    → ((k : ℕ) → k < n → get_or b k 0 ≤ get_or a k 0 + 1) → raised_start a b ≡ some (raised a n (n + 1))
unfolding raised_start
start_first [] b n ha hb l h = absurd (omega arith)
start_first (x ∷ a) [] n ha hb l h = absurd (omega arith)
start_first (x ∷ a) (y ∷ b) zero ha hb l h = unfold raised part in rw (lt-ltb (x + 1) y l, raised_start)
start_first (x ∷ a) (y ∷ b) (suc n) ha hb l h =
    let r = start_first a b n (omega arith) (omega arith) l (λ k q. h (suc k) (omega arith)) in
    rw (le-ltb (x + 1) y (h 0 (omega arith)), r, suc-add, raised_cons x a n (n + 1), raised_start)

start_none : (a b : List ℕ) → ((k : ℕ) → k < length a → k < length b → get_or b k 0 ≤ get_or a k 0 + 1) → raised_start a b ≡ none
unfolding raised_start
start_none [] b h = refl
start_none (x ∷ a) [] h = refl
start_none (x ∷ a) (y ∷ b) h =
    rw (le-ltb (x + 1) y (h 0 (omega arith) (omega arith)), start_none a b (λ k p q. h (suc k) (omega arith) (omega arith)), raised_start)

-- the place before which none can be raised
pub raises_first : (a b : List ℕ) (r : maybe.Option ℕ) → ((i : ℕ) → get_or b i 0 < 256)
    → MatchOption r ((k : ℕ) → k < length a → k < length b → get_or b k 0 ≤ get_or a k 0 + 1)
    (λ n. (n < length a) × (n < length b) × (get_or a n 0 + 1 < get_or b n 0) × ((k : ℕ) → k < n → get_or b k 0 ≤ get_or a k 0 + 1))
    → RaisesFirst a b r
raises_first a b None bytes h = start_none a b h
raises_first a b (Some n) bytes (ha, hb, l, h) =
    (record { before = omega arith; within = omega arith; low = omega (arith, bytes n) }, start_first a b n ha hb l h)

-- ---- the last place to raise

last_none : (a : List ℕ) → ((k : ℕ) → k < length a → 255 ≤ get_or a k 0) → raised_last a ≡ none
unfolding raised_last
last_none [] h = refl
last_none (x ∷ a) h = rw (last_none a (λ k l. h (suc k) (omega arith)), le-ltb x 255 (h 0 (omega arith)), raised_last)

last_found : (a : List ℕ) (n : ℕ) → n < length a → get_or a n 0 < 255 → ((k : ℕ) → n < k → k < length a → 255 ≤ get_or a k 0)
    → raised_last a ≡ some (raised a n (length a))
unfolding raised_last
last_found [] n l low h = absurd (omega arith)
last_found (x ∷ a) zero l low h =
    let e = last_none a (λ k q. h (suc k) (omega arith) (omega arith)) in
    rw (e, lt-ltb x 255 low, raised_first_byte x a, raised_last)
last_found (x ∷ a) (suc n) l low h =
    let e = last_found a n (omega arith) low (λ k p q. h (suc k) (omega arith) (omega arith)) in
    rw (e, raised_cons x a n (length a), raised_last)

-- the place behind which none can be raised
pub raises_last : (a : List ℕ) (r : maybe.Option ℕ)
    → MatchOption r ((k : ℕ) → k < length a → 255 ≤ get_or a k 0)
    (λ n. (n < length a) × (get_or a n 0 < 255) × ((k : ℕ) → n < k → k < length a → 255 ≤ get_or a k 0)) → RaisesLast a r
raises_last a None h = last_none a h
raises_last a (Some n) (l, low, h) = (record { before = l; within = omega arith; low = low }, last_found a n l low h)

-- ---- the shortest separator, by the places found

module _ (a b : List ℕ) where
  pub first_planned : {i : ℕ} → RaisesFirst a b (Some i) → Planned a (Raised i (i + 1)) (shortest_sep a b)
  unfolding sep_bytes SepFits shortest_sep
  first_planned first = record { fits = first.0; gives = rw (first.1, shortest_sep) }

  module _ (first : RaisesFirst a b None) where
    pub longer_planned : RaisesLast a None → Planned a Longer (shortest_sep a b)
    unfolding sep_bytes SepFits shortest_sep
    longer_planned last = record { fits = tt; gives = rw (first, last, shortest_sep) }

    module _ {i : ℕ} (last : RaisesLast a (Some i)) where
      pub last_planned : bytes_below (raised a i (length a)) b ≡ true → Planned a (Raised i (length a)) (shortest_sep a b)
      unfolding sep_bytes SepFits shortest_sep
      last_planned t = record { fits = last.0; gives = rw (first, last.1, t, shortest_sep) }

      pub not_planned : bytes_below (raised a i (length a)) b ≡ false → Planned a Longer (shortest_sep a b)
      unfolding sep_bytes SepFits shortest_sep
      not_planned t = record { fits = tt; gives = rw (first, last.1, t, shortest_sep) }

-- ---- the user separator: empty keys, keys that are not below, and separators that reach the next key give the key itself

pub sep_empty : (a b : List ℕ) → length a ≡ 0 → a ≡ user_sep a b
unfolding user_sep
sep_empty [] b h = refl
sep_empty (x ∷ a) b h = absurd (omega arith)

pub sep_above : (a b : List ℕ) → bytes_below a b ≡ false → a ≡ user_sep a b
unfolding user_sep
sep_above [] b h = refl
sep_above (x ∷ a) b h = rw (h, user_sep)

-- the key itself where a test fails
abbrev pub sep_or : List ℕ → List ℕ → Bool → List ℕ
sep_or s a t = elim t [ true ↦ s | false ↦ a ]

pub sep_chosen : (a b : List ℕ) (t : Bool) → 0 < length a → bytes_below a b ≡ true → bytes_below (shortest_sep a b) b ≡ t → sep_or (shortest_sep a b) a t ≡ user_sep a b
unfolding user_sep
sep_chosen [] b t l h k = absurd (omega arith)
sep_chosen (x ∷ a) b t l h k = sym (ap (sep_or (shortest_sep (x ∷ a) b) (x ∷ a)) (ap₂ ◌&&◌ h k))

-- ---- what a plan says

pub fits_raised : {a : List ℕ} {s : Sep} {i n : ℕ} → SepFits a s → s ≡ Raised i n → Raisable a i n
unfolding SepFits
fits_raised f e = rw e at f

-- ---- separators of internal keys

module _ (a b : List ℕ) {u v : List ℕ} (is_u : u ≡ user_of a) (is_v : v ≡ user_of b) {s : Sep} (p : Planned u s (user_sep u v)) where
  separator_whole : length u ≤ length (user_sep u v) → a ≡ separator a b
  unfolding separator
  separator_whole h = rw (← is_u, ← is_v, le-ltb (length (user_sep u v)) (length u) h, separator)

  -- a plan that raises no byte gives a separator no shorter than the user key
  pub internal_other : ((i n : ℕ) → s ≡ Raised i n → ⊥) → a ≡ separator a b
  unfolding sep_bytes
  internal_other d = separator_whole (at_least s d (ap length p.gives))
    where
      at_least : (t : Sep) → ((i n : ℕ) → t ≡ Raised i n → ⊥) → length (sep_bytes u t) ≡ length (user_sep u v) → length u ≤ length (user_sep u v)
      at_least Whole d e = omega arith
      at_least Longer d e = omega (arith, length-append u (0 ∷ []))
      at_least (Raised i n) d e = absurd (d i n refl)

  module _ {i n : ℕ} (e : s ≡ Raised i n) where
    is_raised : raised u i n ≡ user_sep u v
    unfolding sep_bytes
    is_raised = rw e at p.gives

    pub internal_long : length u ≤ n → a ≡ separator a b
    internal_long h = separator_whole (omega (arith, ap length is_raised, raised_length u i n (fits_raised p.fits e)))

    pub internal_short : n < length u → raised u i n ++ last_tag ≡ separator a b
    unfolding separator
    internal_short h =
        let both : ltb (length (user_sep (user_of a) (user_of b))) (length (user_of a)) && bytes_below (user_of a) (user_sep (user_of a) (user_of b)) ≡ true =
        rw (
          ← is_u,
          ← is_v,
          ← is_raised,
          lt-ltb (length (raised u i n)) (length u) (omega (arith, raised_length u i n (fits_raised p.fits e))),
          raised_above u i n (fits_raised p.fits e),
        ) in
        ap (λ (l : List ℕ). l ++ last_tag) (is_raised ∙ ap₂ user_sep is_u is_v) ∙ sym (rw (both, separator))

-- ---- successors

succ_low : (key : List ℕ) (n : ℕ) → n < length key → (get_or key n 0 ≡ 255 → ⊥) → ((k : ℕ) → k < n → get_or key k 0 ≡ 255)
    → short_succ key ≡ take n key ++ ((get_or key n 0 + 1) ∷ [])
unfolding short_succ
succ_low [] n l d h = absurd (omega arith)
succ_low (x ∷ key) zero l d h = rw (ne_eqb x 255 d, short_succ)
succ_low (x ∷ key) (suc n) l d h =
    rw (eq-eqb x 255 (h 0 (omega arith)), succ_low key n (omega arith) d (λ k q. h (suc k) (omega arith)), short_succ)

succ_full : (key : List ℕ) → ((k : ℕ) → k < length key → get_or key k 0 ≡ 255) → short_succ key ≡ key ++ (255 ∷ [])
unfolding short_succ
succ_full [] h = refl
succ_full (x ∷ key) h = rw (eq-eqb x 255 (h 0 (omega arith)), succ_full key (λ k l. h (suc k) (omega arith)), short_succ)

-- the place before which all are 255
pub low_first : (key : List ℕ) (r : maybe.Option ℕ)
    → MatchOption r ((k : ℕ) → k < length key → get_or key k 0 ≡ 255)
    (λ n. (n < length key) × (get_or key n 0 ≡ 255 → ⊥) × ((k : ℕ) → k < n → get_or key k 0 ≡ 255)) → FirstLow key r
low_first key None h = succ_full key h
low_first key (Some n) (l, d, h) = (l, d, succ_low key n l d h)

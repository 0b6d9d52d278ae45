-- A filter lets each hash through that it was made of, whatever the choice.
use Prim.Native.Nat.{ℕ, zero, suc, ◌+◌, ◌*◌, ◌-◌, ◌/◌, ◌%◌, ◌^◌, ◌≤◌, ◌<◌, max}
use mathlib.Core.Path.{◌≡◌, refl, ◌∙◌}
use mathlib.Core.List.{List, [], ◌∷◌, ◌++◌, Memᴰ}
use mathlib.Core.Bool.{true, or-true}
use native.Mathlib.Nat.{mod-lt, div_self}
use native.Mathlib.Omega.{arith}
use lib.Dec.{ltb, eqb}
use lib.Bits.{bit_or, or_step, or_shr}
use lib.Pow.{pow_pos}
use lib.ListN.{length, get_or, replicate, length-append, length-set, length-replicate}
use lib.Seq.{get_or-set_same, get_or-set_other, take-append_seam, get_or-append_seam}
use borrow.Author.Tests.{ltb-true, ltb-false, le-leb, eq-eqb, eqb-true, eqb-false}
use Rattle.codec.proofs.Prelude.{test, split}
use Rattle.codec.proofs.Lists.{Below}
use Rattle.filters.specs.Filter.{bit, raise, raise_all, raise_keys, places, places_of, probes, filter_size, filter, all_raised, filter_may}
use Rattle.filters.specs.FilterBlock.{Filtering, unfiltered, bits_per_key, filter_for}

bit_or_lem : (a b k : ℕ) → bit_or a b / 2 ^ k % 2 ≡ max (a / 2 ^ k % 2) (b / 2 ^ k % 2)
bit_or_lem a b k = rw (or_shr a b k) (omega (arith, or_step (a / 2 ^ k) (b / 2 ^ k)))

raised_byte : (a k : ℕ) → bit_or a (2 ^ k) / 2 ^ k % 2 ≡ 1
raised_byte a k = rw (bit_or_lem a (2 ^ k) k, div_self (pow_pos k)) (omega arith)

kept_byte : (a b k : ℕ) → a / 2 ^ k % 2 ≡ 1 → bit_or a b / 2 ^ k % 2 ≡ 1
kept_byte a b k h = rw (bit_or_lem a b k) (omega arith)

raised : (s : List ℕ) (p : ℕ) → p < 8 * length s → bit (raise s p) p ≡ 1
unfolding bit raise
raised s p h = rw (get_or-set_same s (p / 8) (bit_or (get_or s (p / 8) 0) (2 ^ (p % 8))) 0 (omega arith)) (raised_byte (get_or s (p / 8) 0) (p % 8))

kept : (s : List ℕ) (p q : ℕ) → p < 8 * length s → bit s q ≡ 1 → bit (raise s p) q ≡ 1
unfolding bit raise
kept s p q h b =
    let v = bit_or (get_or s (p / 8) 0) (2 ^ (p % 8)) in
    test (eqb (q / 8) (p / 8))
    (λ e. let e1 : q / 8 ≡ p / 8 = eqb-true _ _ e in
    rw (e1, get_or-set_same s (p / 8) v 0 (omega arith)) (kept_byte (get_or s (p / 8) 0) (2 ^ (p % 8)) (q % 8) (rw e1 at b)))
    (λ e. rw (get_or-set_other s (p / 8) (q / 8) v 0 (eqb-false (q / 8) (p / 8) e)) b)

pub raise_length : (s : List ℕ) (p : ℕ) → length (raise s p) ≡ length s
unfolding raise
raise_length s p = simp length-set

pub all_length : (s ps : List ℕ) → length (raise_all s ps) ≡ length s
unfolding raise_all
all_length s [] = refl
all_length s (p ∷ ps) = all_length (raise s p) ps ∙ raise_length s p

all_kept : (s ps : List ℕ) (q : ℕ) → Below (8 * length s) ps → bit s q ≡ 1 → bit (raise_all s ps) q ≡ 1
unfolding raise_all
all_kept s [] q h b = b
all_kept s (p ∷ ps) q h b = all_kept (raise s p) ps q (rw raise_length h.1) (kept s p q h.0 b)

raised_all : (s qs ps : List ℕ) → Below (8 * length s) ps → all_raised s qs ≡ true → all_raised (raise_all s ps) qs ≡ true
unfolding all_raised
raised_all s [] ps h k = refl
raised_all s (q ∷ qs) ps h k =
    test (eqb (bit s q) 1)
    (λ e. rw (eq-eqb (bit (raise_all s ps) q) 1 (all_kept s ps q h (eqb-true _ _ e))) (raised_all s qs ps h (rw e at k)))
    (λ e. cc)

all_raised_lem : (s ps : List ℕ) → Below (8 * length s) ps → all_raised (raise_all s ps) ps ≡ true
unfolding all_raised raise_all
all_raised_lem s [] h = refl
all_raised_lem s (p ∷ ps) h =
    let h1 : Below (8 * length (raise s p)) ps = rw raise_length h.1 in
    rw (eq-eqb (bit (raise_all (raise s p) ps) p) 1 (all_kept (raise s p) ps p h1 (raised s p h.0))) (all_raised_lem (raise s p) ps h1)

places_below : (k n h d : ℕ) → 0 < n → Below n (places k n h d)
unfolding places
places_below zero n h d l = tt
places_below (suc k) n h d l = (mod-lt h l, places_below k n ((h + d) % 2 ^ 32) d l)

-- ---- all keys
module _ (k : ℕ) where
  of_below : (n x : ℕ) → 0 < n → Below n (places_of k n x)
  unfolding places_of
  of_below n x l = places_below k n x (x % 2 ^ 17 * 2 ^ 15 + x / 2 ^ 17) l

  keys_kept : (n : ℕ) (s hs qs : List ℕ) → n ≡ 8 * length s → 0 < n → all_raised s qs ≡ true → all_raised (raise_keys k n s hs) qs ≡ true
  unfolding raise_keys
  keys_kept n s [] qs e l h = h
  keys_kept n s (x ∷ hs) qs e l h =
      let b : Below (8 * length s) (places_of k n x) = rw (← e) (of_below n x l) in
      keys_kept n (raise_all s (places_of k n x)) hs qs (rw all_length e) l (raised_all s qs (places_of k n x) b h)

  keys_raised : (n x : ℕ) (s hs : List ℕ) → n ≡ 8 * length s → 0 < n → Memᴰ x hs → all_raised (raise_keys k n s hs) (places_of k n x) ≡ true
  unfolding raise_keys
  keys_raised n x s hs e l (Memᴰ.head {x = y} {xs = more} q) =
      let b : Below (8 * length s) (places_of k n x) = rw (← e) (of_below n x l) in
      rw (← q) (keys_kept n (raise_all s (places_of k n x)) more (places_of k n x) (rw all_length e) l (all_raised_lem s (places_of k n x) b))
  keys_raised n x s hs e l (Memᴰ.tail {x = y} {xs = more} m) =
      keys_raised n x (raise_all s (places_of k n y)) more (rw all_length e) l m

pub size_eighths : (b : ℕ) → filter_size b ≡ max 8 ((b + 7) / 8)
unfolding filter_size
size_eighths b =
    test (ltb b 64)
    (λ e. let l = ltb-true b 64 e in rw (filter_size, e) (omega arith))
    (λ e. let l = ltb-false b 64 e in rw (filter_size, e) (omega arith))

pub probes_most : (bits : ℕ) → probes bits ≤ 30
unfolding probes
probes_most bits = omega arith

pub keys_length : (k n : ℕ) (s hs : List ℕ) → length (raise_keys k n s hs) ≡ length s
unfolding raise_keys
keys_length k n s [] = refl
keys_length k n s (h ∷ hs) = keys_length k n (raise_all s (places_of k n h)) hs ∙ all_length s (places_of k n h)

-- what a filter's parts say
may : (f : List ℕ) (k h : ℕ) → all_raised f (places_of k (8 * length f) h) ≡ true → filter_may (f ++ (k ∷ [])) h ≡ true
unfolding filter_may
may f k h e =
    let l = length-append f (k ∷ []) in
    let d : length (f ++ (k ∷ [])) - 1 ≡ length f = omega arith in
    rw (d, take-append_seam, get_or-append_seam, e) (simp or-true)

pub may_few : (f : List ℕ) (h : ℕ) → length f ≤ 1 → filter_may f h ≡ true
unfolding filter_may
may_few f h l = simp (le-leb (length f) 1 l)

-- whatever the size and the number of probes, the filter of some hashes lets each of them through
made_may : (k size : ℕ) (hs : List ℕ) (h : ℕ) → Memᴰ h hs → filter_may (raise_keys k (8 * size) (replicate size 0) hs ++ (k ∷ [])) h ≡ true
made_may k size hs h m =
    let s : List ℕ = replicate size 0 in
    let bits = raise_keys k (8 * size) s hs in
    let e : 8 * size ≡ 8 * length s = simp length-replicate in
    let n : length bits ≡ length s = keys_length k (8 * size) s hs in
    split 0 size
    (λ l. may bits k h (rw (n, ← e) (keys_raised k (8 * size) h s hs e (omega arith) m)))
    (λ l. may_few (bits ++ (k ∷ [])) h (omega (arith, length-append bits (k ∷ []))))

-- no hashes make no filter
pub empty_filter : (c : Filtering) → filter_for c [] ≡ []
unfolding filter_for
empty_filter unfiltered = refl
empty_filter (bits_per_key b) = refl

-- a hash that was put into a filter may match it, whatever the choice
pub never_denies : (c : Filtering) (hs : List ℕ) (h : ℕ) → Memᴰ h hs → filter_may (filter_for c hs) h ≡ true
unfolding filter_for filter
never_denies unfiltered hs h m = may_few [] h (omega arith)
never_denies (bits_per_key b) hs h (Memᴰ.head {x = y} {xs = more} q) = made_may (probes b) (filter_size (length (y ∷ more) * b)) (y ∷ more) h (Memᴰ.head q)
never_denies (bits_per_key b) hs h (Memᴰ.tail {x = y} {xs = more} m) = made_may (probes b) (filter_size (length (y ∷ more) * b)) (y ∷ more) h (Memᴰ.tail m)

-- a filter's size, whatever the hashes
pub filter_length : (bits : ℕ) (hs : List ℕ) → length (filter bits hs) ≡ filter_size (length hs * bits) + 1
unfolding filter
filter_length bits hs = simp (length-append, keys_length, length-replicate)

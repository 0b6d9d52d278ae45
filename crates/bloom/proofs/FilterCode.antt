-- One filter as the code goes: its size without overflow, its places and bits one by one, and its bytes in a part of a run.
use Rattle.std.proofs.Common.{Option, None, Some, Ok, ◌≡◌, ℕ, suc, ◌+◌, ◌-◌, ◌*◌, ◌/◌, ◌%◌, ◌^◌, ◌<◌, ◌≤◌, min, Bool, true, false, ◌&&◌, eqb, ltb, List, [], ◌∷◌, ◌++◌, length, get_or, take, drop, set, replicate, sym, refl, ap, ◌∙◌, mod-eq_of_lt, add-one, arith, drop_of_length-le, drop-cons}
use mathlib.Core.Bool.{or-true}
use native.Mathlib.Nat.{sub-zero}
use lib.Bits.{bit_or}
use lib.ListN.{length-append, length-replicate, length-take, length-drop}
use lib.Seq.{take-append_seam, get_or-append_seam}
use lib.Pow.{pow-lt}
use borrow.Author.Tests.{lt-leb, eqb-false}
use Rattle.codec.specs.Put.{put, Wrote}
use Rattle.codec.proofs.Prelude.{split}
use Rattle.codec.proofs.PutLaws.{answer_room, put_length, wrote_sets, wrote_then, mid_put}
use Rattle.bloom.specs.Choice.{choice_of}
use Rattle.filters.specs.Filter.{probes, places, places_of, bit, raise, raise_all, raise_keys, filter_size, filter, all_raised, filter_may}
use Rattle.filters.specs.FilterBlock.{Filtering, unfiltered, bits_per_key, filter_for}
use Rattle.filters.specs.FilterCount.{filter_bytes_of}
use Rattle.filters.proofs.FilterLaws.{keys_length, empty_filter}

-- ---- the filter and its bytes, by the choice

module _ (ch : Option ℕ) where
  choice_none : ch ≡ None → choice_of ch ≡ unfiltered
  unfolding choice_of
  choice_none e = rw e

  choice_bits : {b : ℕ} → ch ≡ Some b → choice_of ch ≡ bits_per_key b
  unfolding choice_of
  choice_bits e = rw e

  pub no_bytes_none : (n : ℕ) → ch ≡ None → filter_bytes_of (choice_of ch) n ≡ 0
  unfolding filter_bytes_of
  no_bytes_none n e = rw (choice_none e)

  pub bytes_some : (n : ℕ) {b : ℕ} → ch ≡ Some b → (n ≡ 0 → ⊥) → filter_bytes_of (choice_of ch) n ≡ filter_size (n * b) + 1
  unfolding filter_bytes_of
  bytes_some n e p = let q : n ≡ suc (n - 1) = omega arith in rw (choice_bits e, q)

  pub no_filter_none : (hs : List ℕ) → ch ≡ None → filter_for (choice_of ch) hs ≡ []
  unfolding filter_for
  no_filter_none hs e = rw (choice_none e)

  pub filter_chosen : (hs : List ℕ) {b : ℕ} → ch ≡ Some b → (length hs ≡ 0 → ⊥) → filter_for (choice_of ch) hs ≡ filter b hs
  unfolding filter_for
  filter_chosen [] e p = absurd (p refl)
  filter_chosen (x ∷ hs) e p = rw (choice_bits e)

-- without hashes, whatever the choice
pub no_filter : (c : Filtering) (hs : List ℕ) → length hs ≡ 0 → filter_for c hs ≡ []
no_filter c [] z = empty_filter c
no_filter c (x ∷ hs) z = absurd (omega arith)

-- ---- places

-- a hash of 32 bits reaches no place from 2 ^ 32 on
pub place_is : (m n x : ℕ) → n ≡ min m (2 ^ 32) → x < 2 ^ 32 → x % n ≡ x % m
place_is m n x e l =
    split m (2 ^ 32)
    (λ h. let q : n ≡ m = omega arith in ap (λ (y : ℕ). x % y) q)
    (λ h. let q : n ≡ 2 ^ 32 = omega arith in
    ap (λ (y : ℕ). x % y) q ∙ mod-eq_of_lt l ∙ sym (mod-eq_of_lt (omega arith)))

-- the places from probe i on
module _ (k i m x d : ℕ) where
  more_places : i < k → places (k - i) m x d ≡ x % m ∷ places (k - (i + 1)) m ((x + d) % 2 ^ 32) d
  unfolding places
  more_places h = let e : k - i ≡ suc (k - (i + 1)) = omega arith in rw e

  no_places : k ≤ i → places (k - i) m x d ≡ []
  unfolding places
  no_places h = let e : k - i ≡ 0 = omega arith in rw e

pub places_start : (k m h d : ℕ) → d ≡ h % 2 ^ 17 * 2 ^ 15 + h / 2 ^ 17 → places (k - 0) m h d ≡ places_of k m h
unfolding places_of
places_start k m h d e = rw (e, sub-zero)

-- ---- bits

pub one_raised : (s : List ℕ) (p : ℕ) → set s (p / 8) (bit_or (get_or s (p / 8) 0) (1 * 2 ^ (p % 8) % 2 ^ 8)) ≡ raise s p
unfolding raise
one_raised s p =
    let l : p % 8 < 8 = omega arith in
    let e : 1 * 2 ^ (p % 8) % 2 ^ 8 ≡ 2 ^ (p % 8) = mod-eq_of_lt (omega (arith, pow-lt l)) ∙ omega arith in
    ap (λ (v : ℕ). set s (p / 8) (bit_or (get_or s (p / 8) 0) v)) e

-- the bits of the places from probe i on
module _ (s : List ℕ) (k i m x d : ℕ) where
  pub raise_more : i < k → raise_all (raise s (x % m)) (places (k - (i + 1)) m ((x + d) % 2 ^ 32) d) ≡ raise_all s (places (k - i) m x d)
  unfolding raise_all
  raise_more h = rw (more_places k i m x d h)

  pub raise_none : k ≤ i → raise_all s (places (k - i) m x d) ≡ s
  unfolding raise_all
  raise_none h = rw (no_places k i m x d h)

  pub raised_next : (r : Bool) → i < k → eqb (bit s (x % m)) 1 ≡ r → r && all_raised s (places (k - (i + 1)) m ((x + d) % 2 ^ 32) d) ≡ all_raised s (places (k - i) m x d)
  unfolding all_raised
  raised_next r h t = rw (more_places k i m x d h, t)

  pub raised_none : k ≤ i → true ≡ all_raised s (places (k - i) m x d)
  unfolding all_raised
  raised_none h = rw (no_places k i m x d h)

-- the bits of the hashes from number i on
module _ (k m : ℕ) (s hs : List ℕ) (i : ℕ) where
  pub keys_more : i < length hs → raise_keys k m (raise_all s (places_of k m (get_or hs i 0))) (drop (i + 1) hs) ≡ raise_keys k m s (drop i hs)
  unfolding raise_keys
  keys_more h = rw (add-one, drop-cons hs i 0 h)

  pub keys_none : length hs ≤ i → raise_keys k m s (drop i hs) ≡ s
  unfolding raise_keys
  keys_none h = rw (drop_of_length-le hs h)

-- ---- the filter, written into a part of a run

-- a part between two places
pub mid_length : (d : List ℕ) (at last : ℕ) → at ≤ last → last ≤ length d → length (take (last - at) (drop at d)) ≡ last - at
mid_length d at last h l = simp (length-take, length-drop) (omega arith)

-- a filter is its bits and then k
filter_parts : (bits size k : ℕ) (hs ys : List ℕ) → size ≡ filter_size (length hs * bits) → k ≡ probes bits → ys ≡ raise_keys k (8 * size) (replicate size 0) hs → filter bits hs ≡ ys ++ (k ∷ [])
unfolding filter
filter_parts bits size k hs ys f p q = rw (← f, ← p, ← q)

pub wrote_filter : (d : List ℕ) (at size last end bits k : ℕ) (hs ys : List ℕ)
    → size ≡ min (filter_size (length hs * bits)) (2 ^ 63) → length d < 2 ^ 63 → last ≡ at + size → end ≡ last + 1 → end ≤ length d → k ≡ probes bits
    → ys ≡ raise_keys k (8 * length (take (last - at) (drop at d))) (replicate (length (take (last - at) (drop at d))) 0) hs
    → Wrote d at (filter bits hs) (Ok end) (set (take at d ++ (ys ++ drop (last - at) (drop at d))) last k)
wrote_filter d at size last end bits k hs ys n l at_last at_end room p e =
    let m : last - at ≡ size = omega arith in
    let f : size ≡ filter_size (length hs * bits) = omega arith in
    let q : ys ≡ raise_keys k (8 * size) (replicate size 0) hs = rw (mid_length d at last (omega arith) (omega arith), m) at e in
    let w : length ys ≡ size = ap length q ∙ keys_length k (8 * size) (replicate size 0) hs ∙ length-replicate size 0 in
    rw (filter_parts bits size k hs ys f p q, mid_put d at ys (last - at) (omega arith) (omega arith))
    (wrote_then d at ys (k ∷ []) last (Ok last) (put d at ys) (Ok end) (set (put d at ys) last k) (omega arith)
    (record { said = ap Ok (omega arith) ∙ sym (answer_room d at ys (omega arith)); left = refl }) refl
    (wrote_sets (put d at ys) last (k ∷ []) end (set (put d at ys) last k) (omega (arith, put_length d at ys)) (omega arith) refl))

-- ---- whether a filter lets a hash through, by its bits and k

module _ (f bits : List ℕ) (k h : ℕ) (parts : f ≡ bits ++ (k ∷ [])) where
  -- its last byte is k, and its bits stand before
  long : length f - 1 ≡ length bits
  long = rw parts (omega (arith, length-append bits (k ∷ [])))

  pub may_many : ltb 30 k ≡ true → true ≡ filter_may f h
  unfolding filter_may
  may_many t = sym (rw long (rw (parts, get_or-append_seam, t) (simp or-true)))

  pub may_bits : eqb (length bits) 0 ≡ false → ltb 30 k ≡ false → all_raised bits (places_of k (8 * length bits) h) ≡ filter_may f h
  unfolding filter_may
  may_bits p t =
      let l : 1 < length f = omega (arith, eqb-false (length bits) 0 p, long) in
      let few = lt-leb (length f) 1 l in
      sym (rw (long, few) (rw (parts, get_or-append_seam, take-append_seam, t) refl))

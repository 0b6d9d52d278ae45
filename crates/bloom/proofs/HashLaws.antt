-- The hash, as a loop goes over the bytes.
use Rattle.std.proofs.Common.{◌≡◌, ℕ, zero, suc, ◌+◌, ◌*◌, ◌/◌, ◌%◌, ◌^◌, ◌<◌, ◌≤◌, List, [], ◌∷◌, length, take, drop, get_or, sym, refl, ap, ◌∙◌, arith, length-drop, drop-drop}
use native.Mathlib.Nat.{add-mul-mod_self_left}
use Rattle.std.specs.Simd.{first_chunks}
use Rattle.codec.specs.Bytes.{part, number_of}
use Rattle.filters.specs.Filter.{hash_step, hash_from}

pub hash_four : (h : ℕ) (s : List ℕ) → 4 ≤ length s → hash_from h s ≡ hash_from (hash_step 16 h (number_of (take 4 s))) (drop 4 s)
unfolding hash_from
hash_four h [] l = absurd (omega arith)
hash_four h (a ∷ []) l = absurd (omega arith)
hash_four h (a ∷ b ∷ []) l = absurd (omega arith)
hash_four h (a ∷ b ∷ c ∷ []) l = absurd (omega arith)
hash_four h (a ∷ b ∷ c ∷ d ∷ rest) l = refl

pub hash_rest : (h : ℕ) (s : List ℕ) → 0 < length s → length s < 4 → hash_from h s ≡ hash_step 24 h (number_of s)
unfolding hash_from
hash_rest h [] l k = absurd (omega arith)
hash_rest h (a ∷ []) l k = refl
hash_rest h (a ∷ b ∷ []) l k = refl
hash_rest h (a ∷ b ∷ c ∷ []) l k = refl
hash_rest h (a ∷ b ∷ c ∷ d ∷ rest) l k = absurd (omega arith)

pub hash_none : (h : ℕ) (s : List ℕ) → length s ≡ 0 → hash_from h s ≡ h
unfolding hash_from
hash_none h [] l = refl
hash_none h (a ∷ s) l = absurd (omega arith)

-- ---- as the code goes

-- the low 32 bits of a factor are enough
pub low_bits : (x : ℕ) → x % 2 ^ 32 * 0xc6a4_a793 % 2 ^ 32 ≡ x * 0xc6a4_a793 % 2 ^ 32
low_bits x =
    let e : x * 0xc6a4_a793 ≡ x % 2 ^ 32 * 0xc6a4_a793 + 2 ^ 32 * (x / 2 ^ 32 * 0xc6a4_a793) = omega arith in
    sym (ap (λ (n : ℕ). n % 2 ^ 32) e ∙ add-mul-mod_self_left (x % 2 ^ 32 * 0xc6a4_a793) (2 ^ 32) (x / 2 ^ 32 * 0xc6a4_a793))

-- chunk i of four bytes each
pub chunk_is : (s : List ℕ) (k i : ℕ) → i < k → get_or (first_chunks 4 k s) i [] ≡ part s (4 * i) 4
unfolding part
chunk_is s zero i h = absurd (omega arith)
chunk_is s (suc k) zero h = refl
chunk_is s (suc k) (suc i) h =
    let e : 4 * suc i ≡ 4 + 4 * i = omega arith in
    rw (e, ← drop-drop (4 * i) 4 s) (unfold part in chunk_is (drop 4 s) k i (omega arith))

-- word i goes in
pub word_in : (h : ℕ) (s : List ℕ) (i : ℕ) → 4 * i + 4 ≤ length s → hash_from (hash_step 16 h (number_of (part s (4 * i) 4))) (drop (4 * (i + 1)) s) ≡ hash_from h (drop (4 * i) s)
unfolding part
word_in h s i l =
    let g = hash_step 16 h (number_of (part s (4 * i) 4)) in
    let e : 4 * (i + 1) ≡ 4 * i + 4 = omega arith in
    ap (λ (n : ℕ). hash_from g (drop n s)) e ∙ ap (hash_from g) (sym (drop-drop 4 (4 * i) s)) ∙ sym (hash_four h (drop (4 * i) s) (omega (arith, length-drop (4 * i) s)))

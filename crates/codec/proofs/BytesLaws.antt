-- Parts of bytes, and numbers of several bytes.
use Prim.Native.Nat.{ℕ, zero, suc, ◌+◌, ◌*◌, ◌-◌, ◌/◌, ◌%◌, ◌^◌, ◌≤◌, ◌<◌}
use mathlib.Core.Path.{◌≡◌, refl, sym, ap, ap₂, ◌∙◌}
use mathlib.Core.List.{List, [], ◌∷◌, ◌++◌, append_assoc}
use mathlib.Core.Bool.{true}
use native.Mathlib.Nat.{pow-succ', mul_assoc, zero-add, suc-add}
use native.Mathlib.Omega.{arith}
use lib.Dec.{T, eqb, eqb→eq}
use lib.ListN.{length, take, drop, get_or, length-append, length-take, length-drop}
use lib.Seq.{take_at, drop_at, drop-append-add, drop-append_seam, take-append_seam, get_or_at, take-take, drop-drop, take_all, take-nil}
use borrow.Author.Tests.{eq-eqb, eqb-true, eqb-false}
use Rattle.codec.specs.Bytes.{part, bytes_of, number_of, fours, numbers, same_bytes, common}
use Rattle.codec.proofs.Prelude.{test, is_true, and_l, and_r, true_is}
use Rattle.codec.proofs.Lists.{Below, below_take, below_drop}

-- ---- parts

pub part_first : (a b c : List ℕ) → part (a ++ (b ++ c)) (length a) (length b) ≡ b
unfolding part
part_first a b c = rw (drop-append_seam, take-append_seam)

pub part_second : (a b c d : List ℕ) → part (a ++ (b ++ (c ++ d))) (length a + length b) (length c) ≡ c
unfolding part
part_second a b c d = rw (drop-append-add, drop-append_seam, take-append_seam)

-- the same, with numbers that are the lengths
pub part_at : (a b c : List ℕ) (m n : ℕ) → m ≡ length a → n ≡ length b → part (a ++ (b ++ c)) m n ≡ b
part_at a b c m n p q = rw (p, q) (part_first a b c)

pub part_second_at : (a b c d : List ℕ) (n : ℕ) → length c ≡ n → part (a ++ (b ++ (c ++ d))) (length a + length b) n ≡ c
part_second_at a b c d n h = rw (← h) (part_second a b c d)

-- a part of a part
take_drop_take : (n b m : ℕ) (l : List ℕ) → b + n ≤ m → take n (drop b (take m l)) ≡ take n (drop b l)
take_drop_take n zero m l h = take-take n m l (omega arith)
take_drop_take n (suc b) zero l h = absurd (omega arith)
take_drop_take n (suc b) (suc m) [] h = refl
take_drop_take n (suc b) (suc m) (x ∷ l) h = take_drop_take n b m l (omega arith)

pub part_take : (s : List ℕ) (m b n : ℕ) → b + n ≤ m → part (take m s) b n ≡ part s b n
unfolding part
part_take s m b n h = take_drop_take n b m s h

pub part_drop : (s : List ℕ) (a b n : ℕ) → part (drop a s) b n ≡ part s (a + b) n
unfolding part
part_drop s a b n = rw (drop-drop b a s)

pub part_part : (s : List ℕ) (a m b n : ℕ) → b + n ≤ m → part (part s a m) b n ≡ part s (a + b) n
unfolding part
part_part s a m b n h = part_take (drop a s) m b n h ∙ part_drop s a b n

pub part_length : (s : List ℕ) (a n : ℕ) → a + n ≤ length s → length (part s a n) ≡ n
unfolding part
part_length s a n h = simp (length-take, length-drop) (omega arith)

pub part_most : (s : List ℕ) (a n : ℕ) → length (part s a n) ≤ n
unfolding part
part_most s a n = simp length-take (omega arith)

-- all that is left from a place on
pub part_end : (s : List ℕ) (a n : ℕ) → length s ≤ a + n → part s a n ≡ drop a s
unfolding part
part_end s a n h = take_all n (drop a s) (omega (arith, length-drop a s))

-- the parts `&s[a..]` and `&s[a..a + n]` that code hands on
pub part_rest : (s : List ℕ) (a : ℕ) → take (length s - a) (drop a s) ≡ drop a s
part_rest s a = take_all (length s - a) (drop a s) (omega (arith, length-drop a s))

pub part_between : (s : List ℕ) (a n : ℕ) → take (a + n - a) (drop a s) ≡ part s a n
unfolding part
part_between s a n =
    let e : a + n - a ≡ n = omega arith in
    rw e

pub part_below : (m : ℕ) (s : List ℕ) (a n : ℕ) → Below m s → Below m (part s a n)
unfolding part
part_below m s a n h = below_take m n (drop a s) (below_drop m a s h)

-- a part as the end of a front
pub part_front : (s : List ℕ) (at n : ℕ) → part s at n ≡ drop at (take (at + n) s)
unfolding part
part_front s zero n = rw zero-add
part_front [] (suc at) n = rw suc-add (take-nil n)
part_front (x ∷ s) (suc at) n = rw suc-add (part_front s at n)

-- all but the last n, and the last n
pub front_at : (a b : List ℕ) (n : ℕ) → length b ≡ n → take (length (a ++ b) - n) (a ++ b) ≡ a
front_at a b n h = take_at a b (length (a ++ b) - n) (omega (arith, length-append a b))

pub back_at : (a b : List ℕ) (n : ℕ) → length b ≡ n → drop (length (a ++ b) - n) (a ++ b) ≡ b
back_at a b n h = drop_at a b (length (a ++ b) - n) (omega (arith, length-append a b))

pub last_one : (a : List ℕ) (x : ℕ) → get_or (a ++ (x ∷ [])) (length (a ++ (x ∷ [])) - 1) 0 ≡ x
last_one a x = get_or_at a x [] 0 (length (a ++ (x ∷ [])) - 1) (omega (arith, length-append a (x ∷ [])))

-- ---- numbers of several bytes

pub bytes_length : (w x : ℕ) → length (bytes_of w x) ≡ w
unfolding bytes_of
bytes_length zero x = refl
bytes_length (suc w) x = ap suc (bytes_length w (x / 256))

pub number_bytes : (w x : ℕ) → x < 256 ^ w → number_of (bytes_of w x) ≡ x
unfolding bytes_of number_of
number_bytes zero x h = omega arith
number_bytes (suc w) x h = rw (number_bytes w (x / 256) (omega arith)) (omega arith)

pub number_below : (w : ℕ) (s : List ℕ) → Below 256 s → length s ≤ w → number_of s < 256 ^ w
unfolding number_of
number_below zero [] h l = omega arith
number_below zero (b ∷ bs) h l = absurd (omega arith)
number_below (suc w) [] h l = omega (arith, number_below w [] tt (omega arith))
number_below (suc w) (b ∷ bs) h l = omega (arith, h.0, number_below w bs h.1 (omega arith))

-- what stands above w bytes does not show in them
pub bytes_above : (w x k : ℕ) → bytes_of w (x + 256 ^ w * k) ≡ bytes_of w x
unfolding bytes_of
bytes_above zero x k = refl
bytes_above (suc w) x k =
    let m = 256 ^ w * k in
    let e : 256 ^ suc w * k ≡ 256 * m = ap (λ (p : ℕ). p * k) (pow-succ' 256 w) ∙ mul_assoc 256 (256 ^ w) k in
    let a : (x + 256 ^ suc w * k) % 256 ≡ x % 256 = omega arith in
    let b : (x + 256 ^ suc w * k) / 256 ≡ x / 256 + m = omega arith in
    ap₂ ◌∷◌ a (ap (bytes_of w) b ∙ bytes_above w (x / 256) k)

pub bytes_low : (n : ℕ) → bytes_of 4 (n % 4294967296) ≡ bytes_of 4 n
bytes_low n =
    let e : n ≡ n % 4294967296 + 256 ^ 4 * (n / 4294967296) = omega arith in
    sym (ap (bytes_of 4) e ∙ bytes_above 4 (n % 4294967296) (n / 4294967296))

pub bytes_number : (bs : List ℕ) → Below 256 bs → bytes_of (length bs) (number_of bs) ≡ bs
unfolding bytes_of number_of
bytes_number [] h = refl
bytes_number (b ∷ bs) h =
    let m : (b + 256 * number_of bs) % 256 ≡ b = omega (arith, h.0) in
    let d : (b + 256 * number_of bs) / 256 ≡ number_of bs = omega (arith, h.0) in
    ap₂ ◌∷◌ m (ap (bytes_of (length bs)) d ∙ bytes_number bs h.1)

pub fours_length : (rs : List ℕ) → length (fours rs) ≡ 4 * length rs
unfolding fours
fours_length [] = refl
fours_length (r ∷ rs) = simp length-append (omega (arith, bytes_length 4 r, fours_length rs))

pub fours_append : (xs ys : List ℕ) → fours (xs ++ ys) ≡ fours xs ++ fours ys
unfolding fours
fours_append [] ys = refl
fours_append (x ∷ xs) ys = rw (fours_append xs ys) (simp append_assoc)

pub numbers_fours : (rs rest : List ℕ) → Below (2 ^ 32) rs → numbers (length rs) (fours rs ++ rest) ≡ rs
unfolding fours numbers
numbers_fours [] rest h = refl
numbers_fours (r ∷ rs) rest h =
    rw (
      append_assoc,
      take_at (bytes_of 4 r) (fours rs ++ rest) 4 (bytes_length 4 r),
      drop_at (bytes_of 4 r) (fours rs ++ rest) 4 (bytes_length 4 r),
      number_bytes 4 r h.0,
      numbers_fours rs rest h.1,
    )

-- number i of some, wherever they stand
pub number_of_fours : (pre rs rest : List ℕ) (i : ℕ) → Below (2 ^ 32) rs → i < length rs → number_of (part (pre ++ (fours rs ++ rest)) (length pre + 4 * i) 4) ≡ get_or rs i 0
unfolding fours
number_of_fours pre [] rest i h l = absurd (omega arith)
number_of_fours pre (r ∷ rs) rest zero h l =
    rw (append_assoc (bytes_of 4 r) (fours rs) rest, part_at pre (bytes_of 4 r) (fours rs ++ rest) (length pre + 4 * 0) 4 (omega arith) (omega (arith, bytes_length 4 r))) (number_bytes 4 r h.0)
number_of_fours pre (r ∷ rs) rest (suc i) h l =
    let b = bytes_of 4 r in
    let m : length pre + 4 * suc i ≡ length (pre ++ b) + 4 * i = omega (arith, length-append pre b, bytes_length 4 r) in
    let g : pre ++ (b ++ fours rs ++ rest) ≡ (pre ++ b) ++ (fours rs ++ rest) = simp append_assoc in
    rw (m, g) (number_of_fours (pre ++ b) rs rest i h.1 (omega arith))

-- ---- the same bytes

pub same_same : (s : List ℕ) → same_bytes s s ≡ true
unfolding same_bytes
same_same [] = refl
same_same (x ∷ xs) = rw (eq-eqb x x refl) (same_same xs)

pub same_bytes_lem : (a b : List ℕ) → T (same_bytes a b) → a ≡ b
unfolding same_bytes
same_bytes_lem [] [] t = refl
same_bytes_lem (x ∷ xs) (y ∷ ys) t = ap₂ ◌∷◌ (eqb→eq x y (and_l (eqb x y) (same_bytes xs ys) t)) (same_bytes_lem xs ys (and_r (eqb x y) (same_bytes xs ys) t))
same_bytes_lem [] (y ∷ ys) t = elim t [ ]
same_bytes_lem (x ∷ xs) [] t = elim t [ ]

pub bytes_same_as : (a b : List ℕ) → a ≡ b → T (same_bytes a b)
bytes_same_as a b e = rw e (true_is (same_same b))

-- bytes are those of a number where they make it
pub same_number : (bs : List ℕ) (x : ℕ) → Below 256 bs → x < 256 ^ length bs → same_bytes bs (bytes_of (length bs) x) ≡ eqb (number_of bs) x
same_number bs x h l =
    test (eqb (number_of bs) x)
    (λ e. is_true (same_bytes bs (bytes_of (length bs) x)) (bytes_same_as bs (bytes_of (length bs) x) (sym (bytes_number bs h) ∙ ap (bytes_of (length bs)) (eqb-true (number_of bs) x e))) ∙ sym e)
    (λ e. test (same_bytes bs (bytes_of (length bs) x))
    (λ f. absurd (eqb-false (number_of bs) x e (ap number_of (same_bytes_lem bs (bytes_of (length bs) x) (true_is f)) ∙ number_bytes (length bs) x l)))
    (λ f. f ∙ sym e))

-- ---- what two share at their start

pub record Shares (before key : List ℕ) (n : ℕ) : Type 0 where
  pub in_before : n ≤ length before
  pub in_key : n ≤ length key
  pub same : take n before ≡ take n key

pub shares_none : (before key : List ℕ) → Shares before key 0
shares_none before key = record { in_before = omega arith; in_key = omega arith; same = refl }

pub shares_common : (a b : List ℕ) → Shares a b (common a b)
unfolding common
shares_common [] b = shares_none [] b
shares_common (x ∷ xs) [] = shares_none (x ∷ xs) []
shares_common (x ∷ xs) (y ∷ ys) =
    test (eqb x y)
    (λ t. let r = shares_common xs ys in
    rw (t, common) (record { in_before = omega arith; in_key = omega arith; same = ap₂ ◌∷◌ (eqb-true x y t) r.same }))
    (λ t. rw (t, common) (shares_none (x ∷ xs) (y ∷ ys)))

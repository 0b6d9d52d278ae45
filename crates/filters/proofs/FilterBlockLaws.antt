-- A filter block that was built is well formed, and lets each hash of each filter through.
use Prim.Native.Nat.{ℕ, zero, suc, ◌+◌, ◌*◌, ◌-◌, ◌/◌, ◌%◌, ◌^◌, ◌≤◌, ◌<◌}
use mathlib.Core.Path.{◌≡◌, refl, ap}
use mathlib.Core.List.{List, [], ◌∷◌, ◌++◌, append_assoc, append-nil, Memᴰ}
use mathlib.Core.Bool.{true, or-true}
use native.Mathlib.Numerals.{add-one}
use native.Mathlib.Nat.{zero-add}
use native.Mathlib.Omega.{arith}
use lib.ListN.{length, take, drop, get_or, length-append}
use lib.Seq.{take_at, drop-append_seam}
use borrow.Author.Tests.{le-leb, eq-eqb}
use Rattle.codec.specs.Bytes.{part, bytes_of, fours, numbers}
use Rattle.codec.proofs.Lists.{Below, below_take}
use Rattle.codec.proofs.BytesLaws.{part_at, back_at, last_one, bytes_length, number_bytes, fours_length, fours_append, numbers_fours, number_of_fours}
use Rattle.filters.specs.FilterBlock.{base_of, array_of, count_of, start_of, rising, filter_formed, may_match, Filtering, filter_for, Filters, make_filter, last_filter, made_bytes, starts, filter_block_of, filter_block_bytes}
use Rattle.filters.proofs.FilterLaws.{never_denies}

pub block_of_long : (fs os : List ℕ) → length (filter_block_of fs os) ≡ length fs + 4 * length os + 5
unfolding filter_block_of
block_of_long fs os = simp (length-append, bytes_length, fours_length) (omega arith)

-- ---- the starts, and after them where the last filter ends

unfoldable bounds : Filtering → ℕ → List (List ℕ) → List ℕ
bounds c at [] = at ∷ []
bounds c at (g ∷ gs) = at ∷ bounds c (at + length (filter_for c g)) gs

module _ (c : Filtering) where
  pub starts_length : (at : ℕ) (gs : List (List ℕ)) → length (starts c at gs) ≡ length gs
  unfolding starts
  starts_length at [] = refl
  starts_length at (g ∷ gs) = ap suc (starts_length (at + length (filter_for c g)) gs)

  bounds_are : (at : ℕ) (gs : List (List ℕ)) → bounds c at gs ≡ starts c at gs ++ ((at + length (made_bytes c gs)) ∷ [])
  unfolding bounds starts made_bytes
  bounds_are at [] = ap (λ (n : ℕ). n ∷ []) (omega arith)
  bounds_are at (g ∷ gs) =
      let f = filter_for c g in
      let l : at + length (f ++ made_bytes c gs) ≡ at + length f + length (made_bytes c gs) = omega (arith, length-append f (made_bytes c gs)) in
      rw l (ap (◌∷◌ at) (bounds_are (at + length f) gs))

  bounds_below : (at : ℕ) (gs : List (List ℕ)) (m : ℕ) → at + length (made_bytes c gs) < m → Below m (bounds c at gs)
  unfolding bounds made_bytes
  bounds_below at [] m h = (omega arith, tt)
  bounds_below at (g ∷ gs) m h =
      let l = length-append (filter_for c g) (made_bytes c gs) in (omega arith, bounds_below (at + length (filter_for c g)) gs m (omega arith))

  bounds_length : (at : ℕ) (gs : List (List ℕ)) → length (bounds c at gs) ≡ suc (length gs)
  bounds_length at gs = rw bounds_are (simp length-append (omega (arith, starts_length at gs)))

  first_bound : (at : ℕ) (gs : List (List ℕ)) → get_or (bounds c at gs) 0 0 ≡ at
  unfolding bounds
  first_bound at [] = refl
  first_bound at (g ∷ gs) = refl

  -- filter i stands between bound i and the next
  bounds_part : (pre post : List ℕ) (gs : List (List ℕ)) (i : ℕ) → i < length gs
      → part (pre ++ (made_bytes c gs ++ post)) (get_or (bounds c (length pre) gs) i 0) (get_or (bounds c (length pre) gs) (suc i) 0 - get_or (bounds c (length pre) gs) i 0)
      ≡ filter_for c (get_or gs i [])
  unfolding bounds made_bytes
  bounds_part pre post [] i h = absurd (omega arith)
  bounds_part pre post (g ∷ gs) zero h =
      let f = filter_for c g in
      rw (first_bound (length pre + length f) gs, append_assoc f (made_bytes c gs) post) (part_at pre f (made_bytes c gs ++ post) (length pre) _ refl (omega arith))
  bounds_part pre post (g ∷ gs) (suc i) h =
      let f = filter_for c g in
      let e : pre ++ (f ++ made_bytes c gs ++ post) ≡ (pre ++ f) ++ (made_bytes c gs ++ post) = simp append_assoc in
      rw (← length-append pre f, e) (bounds_part (pre ++ f) post gs i (omega arith))

  offsets_rise : (low at : ℕ) (gs : List (List ℕ)) → low ≤ at → rising low (starts c at gs) (at + length (made_bytes c gs)) ≡ true
  unfolding starts made_bytes rising
  offsets_rise low at [] h = le-leb low (at + 0) (omega arith)
  offsets_rise low at (g ∷ gs) h =
      let f = filter_for c g in
      let l : at + length (f ++ made_bytes c gs) ≡ at + length f + length (made_bytes c gs) = omega (arith, length-append f (made_bytes c gs)) in
      rw (le-leb low at h, l) (offsets_rise at (at + length f) gs (omega arith))

  starts_below : (at : ℕ) (gs : List (List ℕ)) (m : ℕ) → at + length (made_bytes c gs) < m → Below m (starts c at gs)
  starts_below at gs m h =
      let e : take (length gs) (bounds c at gs) ≡ starts c at gs = rw bounds_are (take_at (starts c at gs) _ (length gs) (starts_length at gs)) in
      rw e at (below_take m (length gs) (bounds c at gs) (bounds_below at gs m h))

  -- ---- one filter more

  pub made_append : (gs hs : List (List ℕ)) → made_bytes c (gs ++ hs) ≡ made_bytes c gs ++ made_bytes c hs
  unfolding made_bytes
  made_append [] hs = refl
  made_append (g ∷ gs) hs = rw (made_append gs hs) (simp append_assoc)

  -- the block's size: the filters, 4 for each, and 5
  pub block_long : (gs : List (List ℕ)) → length (filter_block_bytes c gs) ≡ length (made_bytes c gs) + 4 * length gs + 5
  unfolding filter_block_bytes
  block_long gs = omega (arith, block_of_long (made_bytes c gs) (starts c 0 gs), starts_length 0 gs)

-- ---- of any bytes: a number not below the count may match
pub may_beyond : (s : List ℕ) (offset h : ℕ) → count_of s ≤ offset / 2 ^ (base_of s) → may_match s offset h ≡ true
unfolding may_match
may_beyond s offset h l = simp (le-leb (count_of s) (offset / 2 ^ (base_of s)) l, or-true)

-- ---- the parts of the block

back_part : (a c : List ℕ) (x : ℕ) → length c ≡ 4 → part (a ++ (c ++ (x ∷ []))) (length (a ++ (c ++ (x ∷ []))) - 5) 4 ≡ c
unfolding part
back_part a c x h = rw (back_at a (c ++ (x ∷ [])) 5 (omega (arith, length-append c (x ∷ [])))) (take_at c (x ∷ []) 4 h)

module _ (c : Filtering) (gs : List (List ℕ)) (small : length (made_bytes c gs) < 2 ^ 32) where
  abbrev fs : List ℕ
  fs = made_bytes c gs

  abbrev os : List ℕ
  os = starts c 0 gs

  abbrev len : List ℕ
  len = bytes_of 4 (length fs)

  abbrev s : List ℕ
  s = filter_block_bytes c gs

  base_is : base_of s ≡ 11
  unfolding base_of filter_block_bytes filter_block_of
  base_is =
      let e : fs ++ (fours os ++ (len ++ (11 ∷ []))) ≡ (fs ++ fours os ++ len) ++ (11 ∷ []) = simp append_assoc in
      rw e (last_one (fs ++ fours os ++ len) 11)

  array_is : array_of s ≡ length fs
  unfolding array_of filter_block_bytes filter_block_of
  array_is =
      let e : fs ++ (fours os ++ (len ++ (11 ∷ []))) ≡ (fs ++ fours os) ++ (len ++ (11 ∷ [])) = simp append_assoc in
      rw (e, back_part (fs ++ fours os) len 11 (bytes_length 4 _)) (number_bytes 4 (length fs) small)

  count_is : count_of s ≡ length gs
  unfolding count_of
  count_is = omega (arith, block_long c gs, array_is)

  numbers_are : numbers (count_of s) (drop (array_of s) s) ≡ os
  unfolding filter_block_bytes filter_block_of
  numbers_are =
      rw (count_is, array_is, drop-append_seam, ← starts_length c 0 gs) (numbers_fours os (len ++ (11 ∷ [])) (starts_below c 0 gs (2 ^ 32) (omega arith)))

  pub formed : filter_formed s ≡ true
  unfolding filter_formed
  formed =
      let r : rising 0 os (length fs) ≡ true = rw zero-add at (offsets_rise c 0 0 gs (omega arith)) in
      rw (numbers_are, base_is, array_is, le-leb 5 (length s) (omega (arith, block_long c gs)), le-leb (length fs) (length s - 5) (omega (arith, block_long c gs)), eq-eqb ((length s - 5 - length fs) % 4) 0 (omega (arith, block_long c gs))) r

  start_is : (i : ℕ) → i ≤ length gs → start_of s i ≡ get_or (bounds c 0 gs) i 0
  unfolding start_of
  start_is i h =
      let all : s ≡ fs ++ (fours (bounds c 0 gs) ++ (11 ∷ [])) = unfold filter_block_bytes filter_block_of fours in rw (bounds_are c 0 gs, fours_append, zero-add) (simp (append_assoc, append-nil)) in
      rw (array_is, all) (number_of_fours fs (bounds c 0 gs) (11 ∷ []) i (bounds_below c 0 gs (2 ^ 32) (omega arith)) (omega (arith, bounds_length c 0 gs)))

  filter_is : (i : ℕ) → i < length gs → part s (start_of s i) (start_of s (i + 1) - start_of s i) ≡ filter_for c (get_or gs i [])
  filter_is i h =
      rw (start_is i (omega arith), start_is (i + 1) (omega arith), add-one) (unfold filter_block_bytes filter_block_of in bounds_part c [] (fours os ++ (len ++ (11 ∷ []))) gs i h)

  pub may_past : (offset h : ℕ) → length gs ≤ offset / 2048 → may_match s offset h ≡ true
  may_past offset h l = may_beyond s offset h (rw (base_is, count_is) l)

  -- a filter lets its hashes through
  pub may_group : (offset h : ℕ) → offset / 2048 < length gs → Memᴰ h (get_or gs (offset / 2048) []) → may_match s offset h ≡ true
  unfolding may_match
  may_group offset h l m = rw (base_is, filter_is (offset / 2048) l, never_denies c (get_or gs (offset / 2048) []) h m) (simp or-true)

pub made_long : (c : Filtering) (gs : List (List ℕ)) → length (made_bytes c gs) ≤ length (filter_block_bytes c gs)
made_long c gs = omega (arith, block_long c gs)

-- ---- the filter at the end

-- what holds where no hash waits, and of one filter more where some do
pub last_of_lem : (P : Filters → Type 0) (f : Filters) → (f.waiting ≡ [] → P f) → ((h : ℕ) (hs : List ℕ) → f.waiting ≡ h ∷ hs → P (make_filter f)) → P (last_filter f)
unfolding last_filter
last_of_lem P f p q = go f.waiting refl
  where
    go : (w : List ℕ) → f.waiting ≡ w → P (last_filter f)
    go [] e = rw (last_filter, e) (p e)
    go (h ∷ hs) e = rw (last_filter, e) (q h hs e)

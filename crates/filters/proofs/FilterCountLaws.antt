-- The counts of filters being made: as hashes wait, as filters are made, at the end, and the filter block's size.
use Prim.Native.Nat.{ℕ, zero, suc, ◌+◌, ◌-◌, ◌/◌, ◌≤◌, ◌<◌}
use mathlib.Core.Path.{◌≡◌, refl, sym, ap, ◌∙◌}
use mathlib.Core.List.{List, [], ◌∷◌, ◌++◌, append_assoc, append-nil}
use native.Mathlib.Numerals.{add-one}
use native.Mathlib.Omega.{arith}
use lib.Dec.{ltb}
use lib.ListN.{length, length-append}
use borrow.Author.Tests.{ltb-true, ltb-false, lt-ltb, le-ltb}
use Rattle.codec.proofs.Prelude.{test, split}
use Rattle.filters.specs.FilterBlock.{Filtering, unfiltered, bits_per_key, filter_for, Filters, no_filters, wait, make_filter, make_filters, filters_up_to, last_filter, made_bytes, filter_block_bytes}
use Rattle.filters.specs.FilterCount.{FilterCount, filter_count_of, filter_bytes_of, count_waiting, count_made, count_up_to, count_last, filter_block_size}
use Rattle.filters.proofs.FilterLaws.{filter_length}
use Rattle.filters.proofs.FilterBlockLaws.{made_append, block_long, last_of_lem}

pub wait_append : (hs ks : List ℕ) (f : Filters) → wait (hs ++ ks) f ≡ wait ks (wait hs f)
unfolding wait
wait_append hs ks f = rw (← append_assoc f.waiting hs ks)

-- the bytes of a filter are those of its number of hashes
pub filter_size_lem : (c : Filtering) (hs : List ℕ) → length (filter_for c hs) ≡ filter_bytes_of c (length hs)
unfolding filter_for filter_bytes_of
filter_size_lem unfiltered hs = refl
filter_size_lem (bits_per_key b) [] = refl
filter_size_lem (bits_per_key b) (h ∷ hs) = filter_length b (h ∷ hs)

pub no_hashes : (c : Filtering) → filter_bytes_of c 0 ≡ 0
unfolding filter_bytes_of
no_hashes unfiltered = refl
no_hashes (bits_per_key b) = refl

module _ (c : Filtering) where
  pub count_no_filters : filter_count_of c no_filters ≡ record { bytes = 0; made = 0; waiting = 0 }
  unfolding filter_count_of no_filters made_bytes
  count_no_filters = refl

  pub count_wait : (h : ℕ) (f : Filters) → filter_count_of c (wait (h ∷ []) f) ≡ count_waiting (filter_count_of c f)
  unfolding filter_count_of count_waiting wait
  count_wait h f = simp (length-append, add-one)

  -- n filters more, of which the first takes all that wait
  taken : ℕ → FilterCount → FilterCount
  taken n k = record { bytes = k.bytes + filter_bytes_of c k.waiting; made = n + k.made; waiting = 0 }

  taken_again : (n : ℕ) (k : FilterCount) → taken (suc n) (taken 1 k) ≡ taken (suc (suc n)) k
  unfolding taken
  taken_again n k =
      let m : suc n + (1 + k.made) ≡ suc (suc n) + k.made = omega arith in
      let b : k.bytes + filter_bytes_of c k.waiting + filter_bytes_of c 0 ≡ k.bytes + filter_bytes_of c k.waiting = omega (arith, no_hashes c) in
      rw (b, m)

  count_make : (f : Filters) → filter_count_of c (make_filter f) ≡ taken 1 (filter_count_of c f)
  unfolding filter_count_of make_filter taken
  count_make f =
      let n : length (f.made ++ (f.waiting ∷ [])) ≡ 1 + length f.made = simp length-append (omega arith) in
      let b : length (made_bytes c (f.made ++ (f.waiting ∷ []))) ≡ length (made_bytes c f.made) + filter_bytes_of c (length f.waiting) =
      rw (made_append c f.made (f.waiting ∷ [])) (unfold made_bytes in simp (length-append, append-nil) (omega (arith, filter_size_lem c f.waiting))) in
      rw (n, b)

  count_makes : (n : ℕ) (f : Filters) → filter_count_of c (make_filters (suc n) f) ≡ taken (suc n) (filter_count_of c f)
  unfolding make_filters
  count_makes zero f = count_make f
  count_makes (suc n) f = count_makes n (make_filter f) ∙ ap (taken (suc n)) (count_make f) ∙ taken_again n (filter_count_of c f)

  pub made_over : (n : ℕ) (k : FilterCount) → k.made < n → count_made c n k ≡ record { bytes = k.bytes + filter_bytes_of c k.waiting; made = n; waiting = 0 }
  unfolding count_made
  made_over n k l = rw (lt-ltb k.made n l, count_made)

  made_more : (n : ℕ) (k : FilterCount) → k.made < n → count_made c n k ≡ taken (n - k.made) k
  unfolding taken
  made_more n k l = let e : n - k.made + k.made ≡ n = omega arith in rw e (made_over n k l)

  pub made_enough : (n : ℕ) (k : FilterCount) → n ≤ k.made → count_made c n k ≡ k
  unfolding count_made
  made_enough n k l = rw (le-ltb k.made n l, count_made)

  count_made_lem : (n : ℕ) (f : Filters) → filter_count_of c (make_filters (n - length f.made) f) ≡ count_made c n (filter_count_of c f)
  unfolding filter_count_of
  count_made_lem n f =
      let m = length f.made in
      test (ltb m n)
      (λ t. let l = ltb-true m n t in
      let e : n - m ≡ suc (n - m - 1) = omega arith in
      rw (made_more n (filter_count_of c f) l, e) (count_makes (n - m - 1) f))
      (λ t. let l = ltb-false m n t in
      let e : n - m ≡ 0 = omega arith in
      rw (made_enough n (filter_count_of c f) l, e) (unfold make_filters in refl))

  pub count_up_to_lem : (offset : ℕ) (f : Filters) → filter_count_of c (filters_up_to offset f) ≡ count_up_to c offset (filter_count_of c f)
  unfolding filters_up_to count_up_to
  count_up_to_lem offset f = count_made_lem (offset / 2048) f

  pub none_waits : (k : FilterCount) → k.waiting ≡ 0 → count_last c k ≡ k
  unfolding count_last
  none_waits k e = cc

  pub some_wait : (k : FilterCount) → (k.waiting ≡ 0 → ⊥) → count_last c k ≡ count_made c (k.made + 1) k
  unfolding count_last
  some_wait k ne = go k.waiting refl
    where
      go : (n : ℕ) → k.waiting ≡ n → count_last c k ≡ count_made c (k.made + 1) k
      go zero e = absurd (ne e)
      go (suc n) e = rw (add-one k.made) (cc)

  last_taken : (k : FilterCount) → (k.waiting ≡ 0 → ⊥) → count_last c k ≡ taken 1 k
  last_taken k ne = let m : k.made + 1 - k.made ≡ 1 = omega arith in some_wait k ne ∙ rw (made_more (k.made + 1) k (omega arith), m)

  pub count_last_lem : (f : Filters) → filter_count_of c (last_filter f) ≡ count_last c (filter_count_of c f)
  count_last_lem f =
      last_of_lem (λ (g : Filters). filter_count_of c g ≡ count_last c (filter_count_of c f)) f
      (λ e. sym (none_waits (filter_count_of c f) (unfold filter_count_of in ap length e)))
      (λ h hs e. count_make f ∙ sym (last_taken (filter_count_of c f) (unfold filter_count_of in λ z. omega (arith, ap length e))))

  pub count_block : (f : Filters) → length (filter_block_bytes c f.made) ≡ filter_block_size (filter_count_of c f)
  unfolding filter_count_of filter_block_size
  count_block f = block_long c f.made

-- ---- what was made stays, and no more hashes wait

pub record Kept (k m : FilterCount) : Type 0 where
  pub bytes : k.bytes ≤ m.bytes
  pub made : k.made ≤ m.made
  pub waiting : m.waiting ≤ k.waiting

module _ (c : Filtering) where
  made_kept : (n : ℕ) (k : FilterCount) → Kept k (count_made c n k)
  made_kept n k =
      test (ltb k.made n)
      (λ t. let l = ltb-true k.made n t in rw (made_more c n k l) (unfold taken in omega arith))
      (λ t. rw (made_enough c n k (ltb-false k.made n t)) (omega arith))

  pub up_to_kept : (offset : ℕ) (k : FilterCount) → Kept k (count_up_to c offset k)
  unfolding count_up_to
  up_to_kept offset k = made_kept (offset / 2048) k

  -- at the end none waits
  pub last_kept : (k : FilterCount) → Kept k (count_last c k) × ((count_last c k).waiting ≡ 0)
  last_kept k =
      split 0 k.waiting
      (λ l. rw (last_taken c k (λ z. omega arith)) (unfold taken in omega arith))
      (λ l. rw (none_waits c k (omega arith)) (omega arith))

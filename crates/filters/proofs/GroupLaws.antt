-- Filters being made: each hash that waited is in the filter of its number.
use Prim.Native.Nat.{ℕ, zero, suc, ◌+◌, ◌-◌, ◌/◌, ◌^◌, ◌≤◌, ◌<◌}
use mathlib.Core.Path.{◌≡◌}
use mathlib.Core.List.Memᴰ
use mathlib.Core.List.{List, [], ◌∷◌, Memᴰ}
use mathlib.Core.Bool.{true}
use native.Mathlib.Omega.{arith}
use lib.Dec.{ltb}
use lib.ListN.{length, get_or, length-append, get_or-append}
use lib.Seq.{get_or-append_seam}
use borrow.Author.Tests.{ltb-true, ltb-false}
use Rattle.codec.proofs.Prelude.{test}
use Rattle.filters.specs.FilterBlock.{bits_per_key, may_match, Filters, wait, make_filter, make_filters, filters_up_to, last_filter, made_bytes, filter_block_bytes}
use Rattle.filters.proofs.FilterBlockLaws.{may_past, may_group, last_of_lem}

-- a hash is in the filter of a number, if that is made, and else among those that wait
pub record Holds (f : Filters) (i : ℕ) (h : ℕ) : Type 0 where
  pub near : i ≤ length f.made
  pub in_made : i < length f.made → Memᴰ h (get_or f.made i [])
  pub in_waiting : i ≡ length f.made → Memᴰ h f.waiting

make_length : (f : Filters) → length (make_filter f).made ≡ suc (length f.made)
unfolding make_filter
make_length f = omega (arith, length-append f.made (f.waiting ∷ []))

make_more : (f : Filters) (i : ℕ) → i ≤ length f.made → i ≤ length (make_filter f).made
make_more f i h = omega (arith, make_length f)

makes_length : (n : ℕ) (f : Filters) → length (make_filters n f).made ≡ n + length f.made
unfolding make_filters
makes_length zero f = omega arith
makes_length (suc n) f = omega (arith, makes_length n (make_filter f), make_length f)

make_holds : (f : Filters) (i h : ℕ) → i ≤ length f.made → Holds f i h → Holds (make_filter f) i h
unfolding make_filter
make_holds f i h l k =
    let e = length-append f.made (f.waiting ∷ []) in
    record {
      near = omega arith;
      in_made = λ m.
          test (ltb i (length f.made))
          (λ t. rw (get_or-append f.made (f.waiting ∷ []) [] i (ltb-true _ _ t)) (k.in_made (ltb-true _ _ t)))
          (λ t. let n = ltb-false i (length f.made) t in
          let q : i ≡ length f.made = omega arith in
          rw (q, get_or-append_seam f.made f.waiting [] []) (k.in_waiting q));
      in_waiting = λ m. absurd (omega arith);
    }

makes_hold : (n : ℕ) (f : Filters) (i h : ℕ) → i ≤ length f.made → Holds f i h → Holds (make_filters n f) i h
unfolding make_filters
makes_hold zero f i h l k = k
makes_hold (suc n) f i h l k = makes_hold n (make_filter f) i h (make_more f i l) (make_holds f i h l k)

pub last_holds : (f : Filters) (i h : ℕ) → Holds f i h → Holds (last_filter f) i h
last_holds f i h k = last_of_lem (λ (g : Filters). Holds g i h) f (λ e. k) (λ x xs e. make_holds f i h k.near k)

pub holds_may : (b : ℕ) (f : Filters) (offset h : ℕ) → length (made_bytes (bits_per_key b) f.made) < 2 ^ 32 → Holds f (offset / 2048) h
    → may_match (filter_block_bytes (bits_per_key b) f.made) offset h ≡ true
holds_may b f offset h small k =
    test (ltb (offset / 2048) (length f.made))
    (λ t. may_group (bits_per_key b) f.made small offset h (ltb-true _ _ t) (k.in_made (ltb-true _ _ t)))
    (λ t. may_past (bits_per_key b) f.made small offset h (ltb-false _ _ t))

pub wait_holds : (hs : List ℕ) (f : Filters) (i h : ℕ) → Holds f i h → Holds (wait hs f) i h
unfolding wait
wait_holds hs f i h k = record { near = k.near; in_made = k.in_made; in_waiting = λ e. Memᴰ.append_left hs (k.in_waiting e) }

pub wait_new : (hs : List ℕ) (f : Filters) (i h : ℕ) → i ≡ length f.made → Memᴰ h hs → Holds (wait hs f) i h
unfolding wait
wait_new hs f i h e m = record { near = omega arith; in_made = λ l. absurd (omega arith); in_waiting = λ q. Memᴰ.append_right f.waiting m }

-- some hashes wait, and filters are made up to a later offset
pub step_length : (from to : ℕ) (hs : List ℕ) (f : Filters) → from ≤ to → length f.made ≡ from / 2048 → length (filters_up_to to (wait hs f)).made ≡ to / 2048
unfolding filters_up_to wait
step_length from to hs f l e = omega (arith, makes_length (to / 2048 - length f.made) (wait hs f))

pub step_holds : (to : ℕ) (hs : List ℕ) (f : Filters) (i h : ℕ) → i ≤ length f.made → Holds (wait hs f) i h → Holds (filters_up_to to (wait hs f)) i h
unfolding filters_up_to wait
step_holds to hs f i h l k = makes_hold _ (wait hs f) i h l k

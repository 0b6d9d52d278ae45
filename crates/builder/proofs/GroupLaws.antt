-- The filters that an offset asks for: those made before, and groups of hashes.
use Prim.Native.Nat.{ℕ, zero, suc, ◌+◌, ◌-◌}
use mathlib.Core.Path.{◌≡◌, refl, sym, ap, ◌∙◌}
use mathlib.Core.List.{List, [], ◌∷◌, ◌++◌, append_assoc, append-nil}
use native.Mathlib.Nat.{add-zero}
use native.Mathlib.Omega.{arith}
use lib.ListN.{length, replicate, length-append}
use Rattle.codec.proofs.Prelude.{split}
use Rattle.filters.specs.FilterBlock.{Filtering, Filters, filter_for, make_filter, make_filters, made_bytes, starts}
use Rattle.filter_block.specs.Make.{groups_up_to}
use Rattle.filter_block.proofs.MakeLaws.{groups_none, groups_some}

makes_none : (n : ℕ) (f : Filters) → f.waiting ≡ [] → ((make_filters n f).made ≡ f.made ++ replicate n []) × ((make_filters n f).waiting ≡ [])
unfolding make_filters make_filter
makes_none zero f e = (sym (append-nil f.made), e)
makes_none (suc n) f e =
    let g = make_filter f in
    let r = makes_none n g refl in
    (r.0 ∙ append_assoc f.made (f.waiting ∷ []) (replicate n []) ∙ ap (λ (w : List ℕ). f.made ++ (w ∷ replicate n [])) e, r.1)

makes_some : (n : ℕ) (f : Filters) → ((make_filters (suc n) f).made ≡ f.made ++ (f.waiting ∷ replicate n [])) × ((make_filters (suc n) f).waiting ≡ [])
unfolding make_filters make_filter
makes_some n f =
    let r = makes_none n (make_filter f) refl in
    (r.0 ∙ append_assoc f.made (f.waiting ∷ []) (replicate n []), r.1)

-- filters up to a number: those made before, and the groups of hashes of the others; then the hashes wait as before, or none does
pub filters_until : (n : ℕ) (f : Filters) → (make_filters (n - length f.made) f).made ≡ f.made ++ groups_up_to (length f.made) n f.waiting
unfolding make_filters
filters_until n f =
    let m = length f.made in
    split m n
    (λ h.
    let e : n - m ≡ suc (n - m - 1) = omega arith in
    ap (λ (k : ℕ). (make_filters k f).made) e ∙ (makes_some (n - m - 1) f).0 ∙ ap (λ (g : List (List ℕ)). f.made ++ g) (sym (groups_some m n f.waiting h)))
    (λ h. let e : n - m ≡ 0 = omega arith in rw (groups_none m n f.waiting h, e) (sym (append-nil f.made)))

pub waits_until : (P : List ℕ → Type 0) (n : ℕ) (f : Filters) → P f.waiting → P [] → P (make_filters (n - length f.made) f).waiting
unfolding make_filters
waits_until P n f p q =
    let m = length f.made in
    split m n
    (λ h. let e : n - m ≡ suc (n - m - 1) = omega arith in rw (e, (makes_some (n - m - 1) f).1) q)
    (λ h. let e : n - m ≡ 0 = omega arith in rw e p)

-- where the filters start
pub starts_append : (c : Filtering) (at : ℕ) (gs hs : List (List ℕ)) → starts c at (gs ++ hs) ≡ starts c at gs ++ starts c (at + length (made_bytes c gs)) hs
unfolding starts made_bytes
starts_append c at [] hs = ap (λ (n : ℕ). starts c n hs) (sym (add-zero at))
starts_append c at (g ∷ gs) hs =
    let n : at + length (filter_for c g ++ made_bytes c gs) ≡ at + length (filter_for c g) + length (made_bytes c gs) = omega (arith, length-append (filter_for c g) (made_bytes c gs)) in
    rw n (ap (λ (l : List ℕ). at ∷ l) (starts_append c (at + length (filter_for c g)) gs hs))

-- The counts of a block being built: of no entries, of one more, and the block's size.
use Prim.Native.Nat.{ℕ, suc, ◌+◌, ◌*◌, ◌≤◌, ◌<◌, max}
use mathlib.Core.Path.{◌≡◌, refl, ap}
use mathlib.Core.Logic.{◌↔◌}
use mathlib.Core.List.{List, [], ◌∷◌, ◌++◌}
use mathlib.Core.Bool.{true, false}
use native.Mathlib.Omega.{arith}
use lib.Dec.{eqb}
use lib.ListN.{length, drop, length-append, length-drop}
use Rattle.codec.specs.Bytes.{common}
use Rattle.codec.proofs.Prelude.{test}
use Rattle.blocks.specs.Block.{Pair, last_key_of, head_bytes, entry_bytes, sharing, since, since_all, packed, restarts_of, or_zero, block_bytes}
use Rattle.blocks.specs.Count.{BlockCount, count_of, no_entries, entry_size, count_entry, count_size}
use Rattle.blocks.proofs.BuildLaws.{head_long, entry_size_lem, first_restart, packed_append, restarts_append, packed_one, restarts_one, block_length}

pub count_none : (i : ℕ) → count_of i [] ≡ no_entries i
unfolding count_of no_entries packed restarts_of since_all last_key_of
count_none i = refl

-- ---- one entry more

since_more : (i n : ℕ) (ps : List Pair) (p : Pair) → since_all i n (ps ++ (p ∷ [])) ≡ since i (since_all i n ps)
unfolding since_all
since_more i n [] p = refl
since_more i n (q ∷ ps) p = since_more i (since i n) ps p

pub last_more : (k : List ℕ) (ps : List Pair) (p : Pair) → last_key_of k (ps ++ (p ∷ [])) ≡ p.key
unfolding last_key_of
last_more k [] p = refl
last_more k (q ∷ ps) p = last_more q.key ps p

pub entry_long : (shared : ℕ) (p : Pair) → length (entry_bytes shared p) ≡ entry_size shared (length p.key) (length p.value)
unfolding entry_size head_bytes
entry_long shared p = rw (entry_size_lem shared p, length-drop shared p.key) (simp length-append (omega arith))

module _ (i : ℕ) (ps : List Pair) (p : Pair) where
  packed_more : length (packed i i [] (ps ++ (p ∷ [])))
      ≡ length (packed i i [] ps) + entry_size (sharing i (since_all i i ps) (last_key_of [] ps) p.key) (length p.key) (length p.value)
  packed_more =
      let s = sharing i (since_all i i ps) (last_key_of [] ps) p.key in
      rw (packed_append i i [] ps (p ∷ []), packed_one i (since_all i i ps) (last_key_of [] ps) p) (simp length-append (omega (arith, entry_long s p)))

  restarts_more : length (restarts_of i i [] 0 (ps ++ (p ∷ [])))
      ≡ elim (eqb (since_all i i ps) i) [ true ↦ suc (length (restarts_of i i [] 0 ps)) | false ↦ length (restarts_of i i [] 0 ps) ]
  restarts_more =
      let at = 0 + length (packed i i [] ps) in
      rw (restarts_append i i [] 0 ps (p ∷ []), restarts_one i (since_all i i ps) (last_key_of [] ps) at p)
      (test (eqb (since_all i i ps) i) (λ t. rw t (simp length-append (omega arith))) (λ t. rw t (simp length-append (omega arith))))

  pub count_entry_lem : count_of i (ps ++ (p ∷ [])) ≡ count_entry i (count_of i ps) p.key (length p.value)
  unfolding count_of count_entry
  count_entry_lem = rw (packed_more, restarts_more, since_more i i ps p, last_more [] ps p)

-- it may be a restart
pub entry_restarts : (i : ℕ) (b : BlockCount) (key : List ℕ) (v : ℕ) → (b.restarts ≤ (count_entry i b key v).restarts) × ((count_entry i b key v).restarts ≤ b.restarts + 1)
unfolding count_entry
entry_restarts i b key v = test (eqb b.since i) (λ t. rw (t, count_entry) (omega arith)) (λ t. rw (t, count_entry) (omega arith))

-- ---- the size, and whether there are entries

or_zero_length : (rs : List ℕ) → length (or_zero rs) ≡ max 1 (length rs)
unfolding or_zero
or_zero_length [] = omega arith
or_zero_length (r ∷ rs) = omega arith

pub count_size_lem : (i : ℕ) (ps : List Pair) → length (block_bytes i ps) ≡ count_size (count_of i ps)
unfolding count_of count_size
count_size_lem i ps = rw (block_length i ps, or_zero_length (restarts_of i i [] 0 ps))

-- there are restarts just where there are entries: the first is one
pub count_zero : (i : ℕ) (ps : List Pair) → ((count_of i ps).restarts ≡ 0) ↔ (ps ≡ [])
unfolding count_of
count_zero i [] = (λ e. refl, λ e. unfold restarts_of in refl)
count_zero i (p ∷ ps) = (λ e. absurd (omega (arith, ap length (first_restart i p ps))), λ e. cc)

-- ---- where each key has a byte of its own, each entry takes 4 at least

-- no key is a start of the key before it
abbrev pub Fresh : List ℕ → List Pair → Type 0
Fresh before [] = Unit {0}
Fresh before (p ∷ ps) = (common before p.key < length p.key) × Fresh p.key ps

entry_four : (shared : ℕ) (p : Pair) → shared < length p.key → 4 ≤ length (entry_bytes shared p)
entry_four shared p l =
    let k = drop shared p.key in omega (arith, entry_size_lem shared p, head_long shared (length k) (length p.value), length-drop shared p.key)

sharing_most : (i n : ℕ) (before key : List ℕ) → sharing i n before key ≤ common before key
unfolding sharing
sharing_most i n before key = test (eqb n i) (λ t. rw (sharing, t) (omega arith)) (λ t. rw (sharing, t) (omega arith))

pub packed_fours : (i n : ℕ) (before : List ℕ) (ps : List Pair) → Fresh before ps → 4 * length ps ≤ length (packed i n before ps)
unfolding packed
packed_fours i n before [] f = omega arith
packed_fours i n before (p ∷ ps) f =
    let s = sharing i n before p.key in
    let m = sharing_most i n before p.key in
    let four = entry_four s p (omega (arith, f.0)) in
    simp length-append (omega (arith, packed_fours i (since i n) p.key ps f.1))

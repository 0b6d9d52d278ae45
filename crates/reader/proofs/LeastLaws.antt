-- No entry of a passed table is below the least point: a walk from it on is over the whole table.
use Prim.Native.Nat.compare
use Prim.Native.Nat.{Ordering}
use Prim.Native.Nat.{ℕ, zero, suc, ◌-◌, ◌≤◌, ◌<◌, ◌^◌, compare}
use mathlib.Core.Path.{◌≡◌, refl, ap}
use mathlib.Core.List.{List, [], ◌∷◌, ◌++◌}
use mathlib.Core.Bool.{false}
use mathlib.Core.Logic.{◌⊎◌, inl, inr}
use native.Mathlib.Omega.{arith}
use lib.Dec.{T, leb, leb→le}
use lib.ListN.{length, take, drop, length-take, length-drop}
use Rattle.codec.specs.Bytes.{number_of, part}
use Rattle.codec.specs.Varint.{Handle}
use Rattle.codec.proofs.BytesLaws.{part_below, number_below}
use Rattle.codec.proofs.Lists.{All, Below, below_all, below_take, below_drop, all_map}
use Rattle.codec.proofs.Prelude.{split, is_true, and_l}
use Rattle.keys.specs.Order.{and_then, is_less, by_bytes, user_of, tag_of, seq_of, point_of, by_point}
use Rattle.keys.proofs.OrderLaws.{compare_is, compare_gt}
use Rattle.blocks.specs.Block.{Entry}
use Rattle.codec.specs.Limits.{within}
use Rattle.blocks.specs.Formed.{data_block, entry_fits}
use Rattle.blocks.proofs.ReadLaws.{entry_read, Reads, block_read}
use Rattle.table.specs.Table.{Found, contents, handle_of, entries_at, found_in, founds_of}
use Rattle.table.specs.Promise.{not_below}
use Rattle.table.proofs.PlaceLaws.{entries_of_lem, all_blocks}
use Rattle.table.proofs.StandLaws.{all_entries, open_reading}
use Rattle.reader.specs.Walk.{onward, least_point, whole_walk}
use Rattle.reader.proofs.PassedLaws.{BlockReads, passed_indexed, passed_opens}

-- ---- keys of bytes

below_append : (m : ℕ) (a b : List ℕ) → Below m a → Below m b → Below m (a ++ b)
below_append m [] b h k = k
below_append m (x ∷ a) b h k = (h.0, below_append m a b h.1 k)

keys_below : {s : List ℕ} {at : ℕ} {before : List ℕ} {es : List Entry} → Below 256 s → Below 256 before → Reads s at before es → All (λ (e : Entry). Below 256 e.key) es
keys_below b c (Reads.done e) = All.nil
keys_below {s} {at} {before} b c (Reads.more {e = e} n read r) =
    let w = entry_read at before (drop at s) read in
    let whole : Below 256 (take w.heading.shared before ++ part (drop at s) w.heading.size w.heading.fresh) =
    below_append 256 (take w.heading.shared before) (part (drop at s) w.heading.size w.heading.fresh) (below_take 256 w.heading.shared before c) (part_below 256 (drop at s) w.heading.size w.heading.fresh (below_drop 256 at s b)) in
    let key : Below 256 e.key = rw (ap (λ (x : Entry). x.key) w.is) whole in
    All.cons key (keys_below b key r)

entries_below : (t : List ℕ) (h : Handle) → Below 256 t → All (λ (e : Entry). Below 256 e.key) (entries_at t h)
unfolding contents
entries_below t h b =
    entries_of_lem (All (λ (e : Entry). Below 256 e.key)) t h All.nil
    (λ x e. let r = block_read (contents t h) e in keys_below (below_take 256 r.end (contents t h) (part_below 256 t h.offset h.size b)) tt r.reads)

-- ---- against the least point

user_up : (u : List ℕ) → 1 ≤ length u → (by_bytes u (0 ∷ []) ≡ Ordering.gt) ⊎ (by_bytes u (0 ∷ []) ≡ Ordering.eq)
unfolding by_bytes
user_up [] h = absurd (omega arith)
user_up (zero ∷ []) h = inr refl
user_up (zero ∷ (y ∷ ys)) h = inl refl
user_up (suc n ∷ xs) h = inl (rw (compare.suc-zero n))

edition_up : (s : ℕ) → s < 2 ^ 56 → (compare (2 ^ 56 - 1) s ≡ Ordering.gt) ⊎ (compare (2 ^ 56 - 1) s ≡ Ordering.eq)
edition_up s h =
    split s (2 ^ 56 - 1)
    (λ l. inl (compare_gt (2 ^ 56 - 1) s l))
    (λ l. inr (compare_is (2 ^ 56 - 1) s (omega arith)))

seq_small : (k : List ℕ) → 8 ≤ length k → Below 256 k → seq_of k < 2 ^ 56
unfolding seq_of tag_of
seq_small k l b =
    let n : length (drop (length k - 8) k) ≤ 8 = omega (arith, length-drop (length k - 8) k) in
    let h : number_of (drop (length k - 8) k) < 2 ^ 64 = number_below 8 (drop (length k - 8) k) (below_drop 256 (length k - 8) k b) n in
    omega (arith, h)

least_up : (k : List ℕ) → 9 ≤ length k → Below 256 k → is_less (by_point (point_of k) least_point) ≡ false
unfolding by_point least_point user_of
least_up k l b = go (user_up u (omega (arith, length-take (length k - 8) k))) (edition_up (seq_of k) (seq_small k (omega arith) b))
  where
    u : List ℕ
    u = take (length k - 8) k

    go : (by_bytes u (0 ∷ []) ≡ Ordering.gt) ⊎ (by_bytes u (0 ∷ []) ≡ Ordering.eq) → (compare (2 ^ 56 - 1) (seq_of k) ≡ Ordering.gt) ⊎ (compare (2 ^ 56 - 1) (seq_of k) ≡ Ordering.eq)
        → is_less (and_then (by_bytes u (0 ∷ [])) (compare (2 ^ 56 - 1) (seq_of k))) ≡ false
    go (inl e) f = rw e
    go (inr e) (inl f) = rw (e, f)
    go (inr e) (inr f) = rw (e, f)

-- ---- of a passed table

abbrev Up : Found → Type 0
Up x = T (not_below least_point x)

entry_up : (ix e : Entry) → T (entry_fits data_block (record { key = e.key; value = e.value })) → Below 256 e.key → Up (found_in ix e)
unfolding not_below entry_fits within
entry_up ix e f b =
    let long = leb→le 9 (length e.key) (and_l (leb 9 (length e.key)) _ (and_l (within 9 1032 (length e.key)) _ f)) in
    rw (least_up e.key long b) tt

module _ (t : List ℕ) (b : Below 256 t) where
  block_up : (ix : Entry) → BlockReads t ix → All Up (founds_of t ix)
  unfolding founds_of
  block_up ix r = all_map (found_in ix) (both (all_entries (entry_fits data_block) (entries_at t (handle_of ix.value)) r.fits) (entries_below t (handle_of ix.value) b))
    where
      both : {es : List Entry} → All (λ (e : Entry). T (entry_fits data_block (record { key = e.key; value = e.value }))) es → All (λ (e : Entry). Below 256 e.key) es → All (λ (e : Entry). Up (found_in ix e)) es
      both All.nil All.nil = All.nil
      both (All.cons {x = e} f fs) (All.cons c cs) = All.cons (entry_up ix e f c) (both fs cs)

onward_all : {xs : List Found} → All Up xs → onward least_point xs ≡ xs
unfolding onward
onward_all All.nil = refl
onward_all (All.cons {x = x} u us) = rw (is_true (not_below least_point x) u, onward)

pub whole_walk_lem : whole_walk
whole_walk_lem t bytes p =
    let i = passed_indexed t p in
    let o = passed_opens t i.1 p in
    rw (open_reading t o.table o.opens) (onward_all (all_blocks t (block_up t (below_all 256 t bytes)) o.blocks))

-- The entries of a table have places of their own, so `after` goes from each entry to the one that follows it.
use Prim.Native.Nat.{ℕ, ◌+◌, ◌<◌}
use mathlib.Core.Path.{◌≡◌, refl, sym, ◌∙◌}
use mathlib.Core.Bool.{not}
use mathlib.Core.List.Memᴰ
use mathlib.Core.List.{List, [], ◌∷◌, ◌++◌, head?}
use mathlib.Core.Option.{Option, none, some, none-ne-some}
use native.Mathlib.Omega.{arith}
use lib.ListN.{length}
use lib.Dec.{T, not_T, eqb, eqb→eq, eqb_refl}
use Rattle.codec.specs.Bytes.{part}
use Rattle.codec.specs.Varint.{Handle}
use Rattle.codec.proofs.BytesLaws.{part_part, part_most}
use Rattle.codec.proofs.Prelude.{test, false_is, is_true, is_false, and_l, and_r, and_i}
use Rattle.codec.proofs.Lists.{All, all_of, Pairs, all_mem, all_append, all_imp, all_map, pairs_map, pairs_imp, pairs_append, pairs_at}
use Rattle.blocks.specs.Block.{Entry, Block, block}
use Rattle.blocks.proofs.ReadLaws.{StartsBefore, block_starts, ValueIn, block_values}
use Rattle.table.specs.Checked.{Checked, pass, refuse}
use Rattle.table.specs.Table.{Footer, footer, Found, found_in, handle_of, contents, entries_at, founds_of, read_blocks, plain}
use Rattle.table.specs.Promise.{is_at, after, after_means, no_place_means, places_differ, values_stand}

-- ---- what holds of the entries

-- of a block's, where it can be read
pub entries_of_lem : (P : List Entry → Type 0) (t : List ℕ) (h : Handle) → P [] → ((b : Block) → block (contents t h) ≡ some b → P b.entries) → P (entries_at t h)
unfolding entries_at
entries_of_lem P t h none_there f = go (block (contents t h)) refl
  where
    go : (o : Option Block) → block (contents t h) ≡ o → P (entries_at t h)
    go none e = rw (e, entries_at) none_there
    go (some b) e = rw (e, entries_at) (f b e)

-- of all blocks', by their index entries
pub all_blocks : (t : List ℕ) {P : Found → Type 0} {Q : Entry → Type 0} → ((ix : Entry) → Q ix → All P (founds_of t ix)) → {ixs : List Entry} → All Q ixs → All P (read_blocks t ixs)
unfolding read_blocks
all_blocks t f All.nil = All.nil
all_blocks t f (All.cons {x = ix} q qs) = all_append (f ix q) (all_blocks t f qs)

-- of a table's, passed or not
plain_of : (P : List Found → Type 0) (t : List ℕ) → P [] → ((h : Handle) → P (read_blocks t (entries_at t h))) → P (plain t)
unfolding plain
plain_of P t none_there f = go (footer t) refl
  where
    go : (c : Checked Footer) → footer t ≡ c → P (plain t)
    go (pass ft) e = rw (e, plain) (f ft.index)
    go (refuse n) e = rw (e, plain) none_there

-- ---- places

abbrev pub Apart : Found → Found → Type 0
Apart x y = T (is_at y.index_start y.start x) → ⊥

apart_by : (x y : Found) → (x.index_start ≡ y.index_start → x.start ≡ y.start → ⊥) → Apart x y
unfolding is_at
apart_by x y f t =
    let i = eqb x.index_start y.index_start in
    let s = eqb x.start y.start in
    f (eqb→eq x.index_start y.index_start (and_l i s t)) (eqb→eq x.start y.start (and_r i s t))

module _ (t : List ℕ) where
  entries_starts : (h : Handle) → Pairs StartsBefore (entries_at t h)
  entries_starts h = entries_of_lem (Pairs StartsBefore) t h Pairs.nil (λ b e. block_starts (contents t h) e)

  of_block : (ix : Entry) → All (λ (x : Found). x.index_start ≡ ix.start) (founds_of t ix)
  unfolding founds_of
  of_block ix = all_map (found_in ix) (all_of (entries_at t (handle_of ix.value)) (λ e m. refl))

  block_places : (ix : Entry) → Pairs Apart (founds_of t ix)
  unfolding founds_of
  block_places ix = pairs_map (found_in ix) (pairs_imp (λ a b h. apart_by (found_in ix a) (found_in ix b) (λ e f. omega arith)) (entries_starts (handle_of ix.value)))

  places : {ixs : List Entry} → Pairs StartsBefore ixs → Pairs Apart (read_blocks t ixs)
  unfolding read_blocks
  places Pairs.nil = Pairs.nil
  places (Pairs.cons {x = ix} q qs) =
      let later = all_blocks t {P = λ (x : Found). ix.start < x.index_start} (λ i h. all_imp (λ x e. rw e h) (of_block i)) q in
      pairs_append (block_places ix)
      (all_imp (λ x e. all_imp (λ y h. apart_by x y (λ f g. omega arith)) later) (of_block ix))
      (places qs)

-- from an entry to the next
pub after_next : (bs : List Found) (x : Found) (cs : List Found) → Pairs Apart (bs ++ (x ∷ cs)) → after x.index_start x.start (bs ++ (x ∷ cs)) ≡ some (head? cs)
unfolding after
after_next [] x cs p = rw (is_true (is_at x.index_start x.start x) (itself x), after)
  where
    itself : (x : Found) → T (is_at x.index_start x.start x)
    itself x = unfold is_at in and_i (eqb x.index_start x.index_start) (eqb x.start x.start) (eqb_refl x.index_start) (eqb_refl x.start)
after_next (b ∷ bs) x cs (Pairs.cons q qs) =
    rw (is_false (is_at x.index_start x.start b) (not_T (is_at x.index_start x.start b) (all_mem q (Memᴰ.append_right bs (Memᴰ.head refl)))), after)
    (after_next bs x cs qs)

pub plain_places : (t : List ℕ) → Pairs Apart (plain t)
plain_places t = plain_of (Pairs Apart) t Pairs.nil (λ h. places t (entries_starts t h))

pub places_differ_lem : places_differ
places_differ_lem t bs x cs y ds e = not_T (is_at y.index_start y.start x) (pairs_at bs cs ds (rw e at (plain_places t)))

pub after_means_lem : after_means
after_means_lem t bs x cs e = rw e (after_next bs x cs (rw e at (plain_places t)))

-- no entry has the place
after_none : (ix at : ℕ) (xs : List Found) → after ix at xs ≡ none → All (λ (x : Found). T (not (is_at ix at x))) xs
unfolding after
after_none ix at [] e = All.nil
after_none ix at (x ∷ xs) e =
    test (is_at ix at x)
    (λ t. absurd (none-ne-some (head? xs) (sym (rw (t, after) at e))))
    (λ t. All.cons (false_is t) (after_none ix at xs (rw (t, after) at e)))

none_after : (ix at : ℕ) {xs : List Found} → All (λ (x : Found). T (not (is_at ix at x))) xs → after ix at xs ≡ none
unfolding after
none_after ix at All.nil = refl
none_after ix at (All.cons {x = x} n ns) = rw (is_false (is_at ix at x) n, after) (none_after ix at ns)

pub no_place_means_lem : no_place_means
no_place_means_lem t ix at = (λ e x m. all_mem (after_none ix at (plain t) e) m, λ f. none_after ix at (all_of (plain t) f))

-- ---- values

abbrev Stands : List ℕ → Found → Type 0
Stands t x = x.value ≡ part t x.value_at (length x.value)

module _ (t : List ℕ) where
  -- where a value stands in its block, it stands in the table
  pub value_stands : (h : Handle) (e : Entry) → ValueIn (contents t h) e → e.value ≡ part t (h.offset + e.value_at) (length e.value)
  unfolding contents
  value_stands h e v = v.is ∙ part_part t h.offset h.size e.value_at (length e.value) (omega (arith, v.ends, part_most t h.offset h.size))

  block_values_stand : (ix : Entry) → All (Stands t) (founds_of t ix)
  unfolding founds_of
  block_values_stand ix =
      let h = handle_of ix.value in
      all_map (found_in ix) (all_imp (value_stands h) (entries_of_lem (All (ValueIn (contents t h))) t h All.nil (λ b e. block_values (contents t h) e)))

pub values_stand_lem : values_stand
values_stand_lem t x m = all_mem (plain_of (All (Stands t)) t All.nil (λ h. all_blocks t (λ ix s. s) (all_of (entries_at t h) (λ ix m. block_values_stand t ix)))) m

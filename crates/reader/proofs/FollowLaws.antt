-- A step through the index: the answer is that of the plain reading.
use Prim.Native.Nat.{ℕ}
use mathlib.Core.Path.{◌≡◌, refl, sym, ◌∙◌, ap}
use mathlib.Core.List.Memᴰ
use mathlib.Core.List.{List, [], ◌∷◌, ◌++◌, map, head?}
use mathlib.Core.Option.{Option, none, some}
use mathlib.Core.Logic.{◌⊎◌, inl, inr, ⊎_elim, ⊎_map}
use native.Mathlib.Omega.{arith}
use lib.Dec.{eqb}
use borrow.Author.Tests.{eqb-true, eqb-false, eq-eqb, ne_eqb}
use Rattle.codec.specs.Varint.{Handle}
use Rattle.codec.proofs.Lists.{All, Pairs, all_mem, all_imp}
use Rattle.codec.proofs.Prelude.{test, apart}
use Rattle.block_reader.specs.declared.block.Which.TheVariants as WhichCase
use Rattle.blocks.specs.Block.{Entry}
use Rattle.block_reader.specs.Said.{pick, place_in, at_in, next_in}
use Rattle.blocks.proofs.ReadLaws.{StartsBefore}
use Rattle.block_reader.proofs.SeekLaws.{place_past}
use Rattle.table.specs.Table.{handle_of, entries_at, found_in, founds_of, read_blocks}
use Rattle.table.specs.Table
use Rattle.table.specs.Promise.{Passed, is_at, after}
use Rattle.table.specs.Reads.{Answer, refused, found_or, step_says, listed}
use Rattle.table.proofs.StandLaws.{open_reading}
use Rattle.std.specs.Prelude.{Ok, Err, None, Some}
use Rattle.table_block.specs.declared.refusal.Refusal.{Refusal}
use Rattle.table_block.specs.declared.refusal.Refusal.TheVariants as Why
use Rattle.table_block.specs.Refusals.{number}
use Rattle.table_block.proofs.RefusalLaws.{err_is, ok_not_err, err_not_ok}
use Rattle.reader.specs.declared.table_reader.Located.{Located}
use Rattle.reader.specs.Answers.{Sought, sought_of}
use Rattle.reader.specs.Parts.{Indexed, Locating, block_at, Sees, say_at, Says, Tells, Split, or_then, OrLater, Is}
use Rattle.reader.proofs.AnswerLaws.{tells_refused, tells_with}
use Rattle.reader.proofs.PassedLaws.{passed_opens}
use Rattle.reader.proofs.LocateLaws.{sees_listed, sees_said}
use Rattle.reader.proofs.LaterLaws.{place_split, index_starts, or_later}

-- ---- an entry by its place

-- what comes after an entry of one block, or where it is the last of all others
unfoldable comes : Entry → Option (Option Entry) → List Table.Found → Option (Option Table.Found) → Option (Option Table.Found)
comes ix none rest other = other
comes ix (some none) rest other = some (head? rest)
comes ix (some (some e)) rest other = some (some (found_in ix e))

-- the entries of another block do not have the place
after_other : (t : List ℕ) (i at : ℕ) (ix : Entry) (es : List Entry) (rest : List Table.Found) → (ix.start ≡ i → ⊥) → after i at (map (found_in ix) es ++ rest) ≡ after i at rest
unfolding after is_at
after_other t i at ix [] rest n = refl
after_other t i at ix (e ∷ es) rest n = rw (ne_eqb ix.start i n, after) (after_other t i at ix es rest n)

after_in : (at : ℕ) (ix : Entry) (es : List Entry) (rest : List Table.Found) → after ix.start at (map (found_in ix) es ++ rest) ≡ comes ix (next_in at es) rest (after ix.start at rest)
unfolding after is_at place_in pick comes
after_in at ix [] rest = refl
after_in at ix (e ∷ es) rest =
    test (eqb e.start at)
    (λ t. rw (eq-eqb ix.start ix.start refl, t, after, place_in) (go es))
    (λ t. rw (eq-eqb ix.start ix.start refl, t, after, place_in) (after_in at ix es rest))
  where
    go : (es : List Entry) → some (head? (map (found_in ix) es ++ rest)) ≡ comes ix (some (head? es)) rest (after ix.start at rest)
    go [] = refl
    go (y ∷ ys) = refl

module _ (t : List ℕ) (i at : ℕ) where
  -- no index entry starts there
  after_nowhere : (ixs : List Entry) → All (λ (x : Entry). x.start ≡ i → ⊥) ixs → after i at (read_blocks t ixs) ≡ none
  unfolding read_blocks after founds_of
  after_nowhere [] All.nil = refl
  after_nowhere (x ∷ xs) (All.cons n ns) = after_other t i at x (entries_at t (handle_of x.value)) (read_blocks t xs) n ∙ after_nowhere xs ns

  after_here : (bs : List Entry) (x : Entry) (cs : List Entry) → Pairs StartsBefore (bs ++ (x ∷ cs)) → x.start ≡ i
      → after i at (read_blocks t (bs ++ (x ∷ cs))) ≡ comes x (next_in at (entries_at t (handle_of x.value))) (read_blocks t cs) none
  unfolding read_blocks founds_of
  after_here [] x cs (Pairs.cons q qs) e =
      rw (← e) (after_in at x (entries_at t (handle_of x.value)) (read_blocks t cs)
      ∙ ap (comes x (next_in at (entries_at t (handle_of x.value))) (read_blocks t cs)) (rw e (after_nowhere cs (all_imp (λ y h g. later y h g) q))))
    where
      later : (y : Entry) → StartsBefore x y → y.start ≡ i → ⊥
      later y h g = omega arith
  after_here (b ∷ bs) x cs (Pairs.cons q qs) e =
      let before : StartsBefore b x = all_mem q (Memᴰ.append_right bs (Memᴰ.head refl)) in
      after_other t i at b (entries_at t (handle_of b.value)) (read_blocks t (bs ++ (x ∷ cs))) (λ g. earlier before g) ∙ after_here bs x cs qs e
    where
      earlier : StartsBefore b x → b.start ≡ i → ⊥
      earlier h g = omega arith

-- no entry starts at a place, or one does: the entries by it
split_at : (i : ℕ) (xs : List Entry) → All (λ (x : Entry). x.start ≡ i → ⊥) xs ⊎ Split xs i
split_at i [] = inl All.nil
split_at i (x ∷ xs) =
    test (eqb x.start i)
    (λ t. inr (record { before = []; here = x; after = xs; whole = refl; at = eqb-true x.start i t }))
    (λ t. ⊎_map (All.cons (eqb-false x.start i t)) (λ s. record { before = x ∷ s.before; here = s.here; after = s.after; whole = ap (◌∷◌ x) s.whole; at = s.at }) (split_at i xs))

none_at : (i : ℕ) {xs : List Entry} → All (λ (x : Entry). x.start ≡ i → ⊥) xs → at_in i xs ≡ none
unfolding place_in
none_at i All.nil = refl
none_at i (All.cons {x = x} {xs = xs} n ns) = place_past WhichCase.Here i x xs n ∙ none_at i ns

-- ---- a step

unfoldable stepped : Option (Option Table.Found) → Answer
stepped m = elim m [ none ↦ refused 14 | some o ↦ found_or o ]

step_in : (ix : Entry) (o : Option (Option Entry)) (rest : List Table.Found) → or_then (say_at ix.start (handle_of ix.value).offset o) (found_or (head? rest)) ≡ stepped (comes ix o rest none)
unfolding or_then say_at found_or stepped comes
step_in ix none rest = refl
step_in ix (some none) rest = refl
step_in ix (some (some e)) rest = refl

module _ (t : List ℕ) {h : Handle} (i : Indexed t h) (ix at : ℕ) {r : Locating} (ir : Sees t h Why.NoPlace (at_in ix) r) where
  abbrev index : Passed t → List Entry
  index q = (passed_opens t i q).table.index

  by_place : {A : Type 0} (q : Passed t) → (All (λ (x : Entry). x.start ≡ ix → ⊥) (index q) → r ≡ block_at Why.NoPlace none → A) → ((s : Split (index q) ix) → r ≡ block_at Why.NoPlace (some (some s.here)) → A) → A
  unfolding pick
  by_place q f g =
      let o = passed_opens t i q in
      ⊎_elim
      (λ n. f n (sees_said ir o q (none_at ix n)))
      (λ s. g s (sees_said ir o q (place_split WhichCase.Here (index_starts o) s)))
      (split_at ix o.table.index)

  -- what a step says, by the index
  says_after : (q : Passed t) → step_says t ix at ≡ stepped (after ix at (read_blocks t (index q)))
  unfolding step_says stepped
  says_after q = let o = passed_opens t i q in ap (λ (l : List Table.Found). stepped (after ix at l)) (open_reading t o.table o.opens)

  pub follow_none : {b : List ℕ} → r ≡ Ok None → Tells sought_of t (Is t (step_says t ix at)) (Err Why.NoPlace) b
  unfolding block_at listed
  follow_none e =
      tells_refused t (Is t (step_says t ix at)) (λ u. tt)
      (λ q. by_place q (λ n g. ok_not_err (sym e ∙ g)) (λ s g. let z : Ok None ≡ block_at Why.NoPlace (some (some s.here)) = sym e ∙ g in apart cc))

  -- the index of a passed table is refused only where no index entry starts at the place
  pub follow_refused : {why : Refusal} {b : List ℕ} → r ≡ Err why → Tells sought_of t (Is t (step_says t ix at)) (Err why) b
  unfolding block_at stepped
  follow_refused {why} e =
      tells_refused t (Is t (step_says t ix at)) (sees_listed ir e)
      (λ q. by_place q
      (λ n g. ap (λ (x : Refusal). refused (number x)) (err_is (sym e ∙ g)) ∙ sym (says_after q ∙ ap stepped (after_nowhere t ix at (index q) n)))
      (λ s g. err_not_ok (sym e ∙ g)))

  pub follow_block : {block : Located} {q f : Sought} {k b : List ℕ} → r ≡ Ok (Some block) → (w : Tells sought_of t (Says t block.start block.handle (next_in at)) q k)
      → Tells sought_of t (OrLater t h block.start w.answer) f b → Tells sought_of t (Is t (step_says t ix at)) f b
  unfolding block_at
  follow_block e w = tells_with λ b u q.
      by_place q
      (λ n g. ok_not_err (sym e ∙ g))
      (λ s g.
      let o = passed_opens t i q in
      let y = s.here in
      or_later t o Why.NoPlace s (sym e ∙ g) (next_in at) w.is u q
      ∙ step_in y (next_in at (entries_at t (handle_of y.value))) (read_blocks t s.after)
      ∙ sym (says_after q
      ∙ ap stepped (ap (λ (l : List Entry). after ix at (read_blocks t l)) s.whole ∙ after_here t ix at s.before y s.after (rw s.whole at (index_starts o)) s.at)))

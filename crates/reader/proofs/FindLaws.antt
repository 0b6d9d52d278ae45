-- A seek through the index: the answer is that of the plain reading.
use Prim.Native.Nat.{ℕ}
use mathlib.Core.Path.{◌≡◌, refl, sym, ◌∙◌, ap}
use mathlib.Core.List.{List, [], ◌∷◌, ◌++◌, map, head?}
use mathlib.Core.Bool.{not}
use mathlib.Core.Option
use mathlib.Core.Option.{Option, none, some}
use mathlib.Core.Logic.{⊎_elim}
use lib.Dec.{T}
use Rattle.codec.specs.Maybe.{first}
use Rattle.codec.specs.Varint.{Handle}
use Rattle.codec.proofs.Lists.{All, all_imp, or_else, first_yes, first_no, first_none}
use Rattle.codec.proofs.Prelude.{test, true_is, false_is, is_true, apart}
use Rattle.keys.specs.Order.{Point, point_of, by_point, is_less}
use Rattle.keys.proofs.OrderLaws.{◌≺◌, ◌≼◌}
use Rattle.blocks.specs.Block.{Entry}
use Rattle.blocks.specs.Search.{reaches, seek_in}
use Rattle.table.specs.Table.{handle_of, entries_at, found_in, founds_of, read_blocks}
use Rattle.table.specs.Promise.{Passed, not_below}
use Rattle.table.specs.Reads.{Answer, refused, found_or, seek_says}
use Rattle.table.proofs.SearchLaws
use Rattle.table.proofs.SearchLaws.{split, seek_beyond, seek_law}
use Rattle.std.specs.Prelude.{Ok, Err, None, Some}
use Rattle.table_block.specs.declared.refusal.Refusal.{Refusal}
use Rattle.table_block.specs.Refusals.{number}
use Rattle.table_block.proofs.RefusalLaws.{err_not_ok}
use Rattle.reader.specs.declared.table_reader.Located.{Located}
use Rattle.reader.specs.Answers.{Sought, sought_of}
use Rattle.reader.specs.Parts.{Indexed, Locating, block_at, Sees, say_at, Says, Tells, or_then, OrLater, Is}
use Rattle.reader.proofs.AnswerLaws.{tells_refused, tells_none, tells_with}
use Rattle.reader.proofs.PassedLaws.{passed_opens}
use Rattle.reader.proofs.LocateLaws.{sees_listed, sees_said}
use Rattle.reader.proofs.LaterLaws.{or_later}

-- ---- the first that reaches a point

module _ (p : Point) where
  reach_lower : (e : Entry) → point_of e.key ≺ p → T (not (reaches p e))
  unfolding reaches
  reach_lower e h = rw (is_true (is_less (by_point (point_of e.key) p)) h.is) tt

  reach_upper : (e : Entry) → p ≼ point_of e.key → T (reaches p e)
  unfolding reaches
  reach_upper e h = h.is

  reach_none : {es : List Entry} → All (λ (e : Entry). point_of e.key ≺ p) es → first (reaches p) es ≡ none
  reach_none h = first_none (reaches p) (all_imp reach_lower h)

  reach_some : (bs : List Entry) (e : Entry) (cs : List Entry) → All (λ (e : Entry). point_of e.key ≺ p) bs → p ≼ point_of e.key → first (reaches p) (bs ++ (e ∷ cs)) ≡ some e
  reach_some [] e cs All.nil h = first_yes (reaches p) e cs (reach_upper e h)
  reach_some (b ∷ bs) e cs (All.cons l ls) h = first_no (reaches p) b (bs ++ (e ∷ cs)) (reach_lower b l) ∙ reach_some bs e cs ls h

  pub first_found : (ix : Entry) (es : List Entry) → first (not_below p) (map (found_in ix) es) ≡ Option.map (found_in ix) (first (reaches p) es)
  unfolding first reaches not_below
  first_found ix [] = refl
  first_found ix (e ∷ es) =
      test (reaches p e)
      (λ t. first_yes (not_below p) (found_in ix e) (map (found_in ix) es) (true_is t) ∙ ap (Option.map (found_in ix)) (sym (first_yes (reaches p) e es (true_is t))))
      (λ t. first_no (not_below p) (found_in ix e) (map (found_in ix) es) (false_is t) ∙ first_found ix es ∙ ap (Option.map (found_in ix)) (sym (first_no (reaches p) e es (false_is t))))

-- what is found in a block, or where that is none what comes after
or_else_lem : (ix : Entry) (o : Option Entry) (l : Option _) → or_then (say_at ix.start (handle_of ix.value).offset (some o)) (found_or l) ≡ found_or (or_else (Option.map (found_in ix) o) l)
unfolding or_then say_at found_or
or_else_lem ix none l = refl
or_else_lem ix (some e) l = refl

-- ---- through the index

module _ (t : List ℕ) {h : Handle} (i : Indexed t h) (p : Point) {absent : Refusal} {r : Locating} (ir : Sees t h absent (seek_in p) r) where
  abbrev index : Passed t → List Entry
  index q = (passed_opens t i q).table.index

  -- the index entry that the search goes by, or that every one is below the point
  by_split : {A : Type 0} (q : Passed t) → (All (λ (x : Entry). point_of x.key ≺ p) (index q) → r ≡ block_at absent (some none) → A) → ((s : SearchLaws.Split p (index q)) → r ≡ block_at absent (some (some s.here)) → A) → A
  unfolding seek_in
  by_split q f g =
      let o = passed_opens t i q in
      ⊎_elim
      (λ l. f l (sees_said ir o q (ap some (reach_none p l))))
      (λ s. g s (sees_said ir o q (ap some (ap (first (reaches p)) s.whole ∙ reach_some p s.before s.here s.after s.lower s.reaches))))
      (split p o.table.index)

  -- the index of a passed table is not refused
  pub seek_refused : {why : Refusal} {b : List ℕ} {told : Answer → Type 0} → r ≡ Err why → ((Passed t → ⊥) → told (refused (number why))) → Tells sought_of t told (Err why) b
  unfolding block_at
  seek_refused {told = told} e is = tells_refused t told (sees_listed ir e) (is (λ q. by_split q (λ l g. err_not_ok (sym e ∙ g)) (λ s g. err_not_ok (sym e ∙ g))))

  pub all_below : r ≡ Ok None → (q : Passed t) → All (λ (x : Entry). point_of x.key ≺ p) (index q)
  unfolding block_at
  all_below e q = by_split q (λ l g. l) (λ s g. let z : Ok None ≡ block_at absent (some (some s.here)) = sym e ∙ g in apart cc)

  pub block_split : {block : Located} → r ≡ Ok (Some block) → (q : Passed t) → (s : SearchLaws.Split p (index q)) × (Ok (Some block) ≡ block_at absent (some (some s.here)))
  unfolding block_at
  block_split {block} e q = by_split q (λ l g. let z : Ok (Some block) ≡ block_at absent (some none) = sym e ∙ g in apart cc) (λ s g. (s, sym e ∙ g))

  pub find_none : {b : List ℕ} → r ≡ Ok None → Tells sought_of t (Is t (seek_says t p)) (Ok None) b
  unfolding found_or seek_says
  find_none e = tells_none t (Is t (seek_says t p)) (λ q. let o = passed_opens t i q in sym (ap found_or (seek_beyond t p o.table q o.opens (all_below e q))))

  pub find_block : {block : Located} {q f : Sought} {k b : List ℕ} → r ≡ Ok (Some block) → (w : Tells sought_of t (Says t block.start block.handle (seek_in p)) q k) → Tells sought_of t (OrLater t h block.start w.answer) f b
      → Tells sought_of t (Is t (seek_says t p)) f b
  unfolding seek_says seek_in founds_of
  find_block e w = tells_with λ b u q.
      let o = passed_opens t i q in
      let n = block_split e q in
      let s = n.0 in
      let ix = s.here in
      let es = entries_at t (handle_of ix.value) in
      or_later t o absent (record { before = s.before; here = ix; after = s.after; whole = s.whole; at = refl }) n.1 (seek_in p) w.is u q
      ∙ or_else_lem ix (first (reaches p) es) (head? (read_blocks t s.after))
      ∙ ap (λ (m : Option _). found_or (or_else m (head? (read_blocks t s.after)))) (sym (first_found p ix es))
      ∙ ap found_or (sym (seek_law t p o.table q o.opens s))

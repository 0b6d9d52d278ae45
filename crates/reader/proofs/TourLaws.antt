-- A walk by seek and step shows the plain reading, in order.
use Prim.Native.Nat.{ℕ, ◌≤◌}
use mathlib.Core.Path.{◌≡◌, refl, sym, ◌∙◌, ap, ap₂, subst}
use mathlib.Core.List.{List, [], ◌∷◌, ◌++◌, map, head?, append_assoc}
use mathlib.Core.Option.{Option, some}
use native.Mathlib.Omega.{arith}
use lib.Dec.{T}
use lib.ListN.{length, take}
use Rattle.codec.specs.Maybe.{first}
use Rattle.codec.proofs.Lists.{first_yes, first_no}
use Rattle.codec.proofs.Prelude.{test, true_is, false_is, apart}
use Rattle.keys.specs.Order.{Point}
use Rattle.table.specs.Table.{Found, plain}
use Rattle.table.specs.Promise.{Passed, not_below, seek_of}
use Rattle.table.specs.Reads.{Answer, found_or, seek_says, step_says, listed, buffer_after}
use Rattle.table.specs.Runs.{overlay}
use Rattle.table.proofs.OverlayLaws.{overlay_front, overlay_long}
use Rattle.table.proofs.PlaceLaws.{after_means_lem}
use Rattle.reader.specs.declared.table_reader.Entry.{Entry}
use Rattle.std.specs.Prelude.{Ok, None, Some}
use Rattle.reader.specs.Answers.{entry_of, Sought, sought_of}
use Rattle.reader.specs.Walk.{Visit, visit_of, Walk, onward, walk_means}
use Rattle.reader.proofs.AnswerLaws.{listed_key}

-- ---- the entries from a point on

first_onward : (p : Point) (xs : List Found) → first (not_below p) xs ≡ head? (onward p xs)
unfolding first onward
first_onward p [] = refl
first_onward p (x ∷ xs) =
    test (not_below p x)
    (λ t. first_yes (not_below p) x xs (true_is t) ∙ sym (rw (t, onward)))
    (λ t. first_no (not_below p) x xs (false_is t) ∙ first_onward p xs ∙ sym (rw (t, onward)))

-- they are the last of all
onward_rest : (p : Point) (xs : List Found) → (bs : List Found) × (xs ≡ bs ++ onward p xs)
unfolding onward
onward_rest p [] = ([], refl)
onward_rest p (x ∷ xs) =
    test (not_below p x)
    (λ t. ([], sym (rw (t, onward))))
    (λ t. let r = onward_rest p xs in (x ∷ r.0, ap (◌∷◌ x) r.1 ∙ ap (λ (l : List Found). (x ∷ r.0) ++ l) (sym (rw (t, onward)))))

-- ---- an answer that is the first of some entries

module _ (t : List ℕ) where
  -- the calls showed it, and the key stands in the buffer
  record Shown (cs : List Found) (r : Sought) (k : List ℕ) : Type 0 where
    answer : r ≡ sought_of (found_or (head? cs))
    buffer : (x : Found) → head? cs ≡ some x → take (length x.key) k ≡ x.key
    long : 1032 ≤ length k

  shown : (cs : List Found) {r : Sought} (k : List ℕ) {k' : List ℕ} {a : Answer} → a ≡ found_or (head? cs) → r ≡ sought_of a → k' ≡ buffer_after a k → T (listed t a) → 1032 ≤ length k → Shown cs r k'
  unfolding found_or buffer_after listed
  shown [] {r} k {k'} {a} is say left inside long =
      record {
        answer = say ∙ ap sought_of is;
        buffer = λ x e. apart cc;
        long = let same : k' ≡ k = left ∙ ap (λ (b : Answer). buffer_after b k) is in rw same long;
      }
  shown (c ∷ cs) {r} k {k'} {a} is say left inside long =
      let fits : length c.key ≤ 1032 = listed_key t c (subst (λ (b : Answer). T (listed t b)) is inside) in
      let same : k' ≡ overlay c.key k = left ∙ ap (λ (b : Answer). buffer_after b k) is in
      record {
        answer = say ∙ ap sought_of is;
        buffer = λ x e. let c_is : c ≡ x = (mathlib.Core.Option.some_inj).0 e in subst (λ (y : Found). take (length y.key) k' ≡ y.key) c_is (rw same (overlay_front c.key (overlay c.key k) k refl));
        long = rw same (omega (arith, overlay_long c.key (overlay c.key k) k refl (omega arith)));
      }

-- a step from an entry's place goes to the entry after it
step_after : (t : List ℕ) (bs : List Found) (x : Found) (cs : List Found) → plain t ≡ bs ++ (x ∷ cs) → step_says t x.index_start x.start ≡ found_or (head? cs)
unfolding step_says
step_after t bs x cs e = rw (after_means_lem t bs x cs e, step_says)

module _ (t : List ℕ) (passed : Passed t) where
  tour : (bs cs : List Found) → plain t ≡ bs ++ cs → {r last : Sought} {k : List ℕ} {vs : List Visit} → Walk t r k vs last → Shown t cs r k → (vs ≡ map visit_of cs) × (last ≡ Ok None)
  unfolding found_or sought_of entry_of visit_of
  tour bs [] e Walk.done s = (refl, refl)
  tour bs [] e Walk.stuck s = let z = s.answer in apart cc
  tour bs [] e (Walk.more w ws) s = let z = s.answer in apart cc
  tour bs (c ∷ cs) e Walk.done s = let z = s.answer in apart cc
  tour bs (c ∷ cs) e Walk.stuck s = let z = s.answer in apart cc
  tour bs (c ∷ cs) e (Walk.more {e = en} {k = k} {k' = k'} {r = r} {vs = vs} w ws) s =
      let z : ◌≡◌ {A = Sought} (Ok (Some en)) (Ok (Some (entry_of c))) = s.answer in
      let en_is : en ≡ entry_of c = cc in
      let n : en.key_len ≡ length c.key = ap (λ (y : Entry). y.key_len) en_is in
      let key_is : take en.key_len k ≡ c.key = ap (λ (m : ℕ). take m k) n ∙ s.buffer c refl in
      let of = w.is.table s.long in
      let says : step_says t en.place.index en.place.entry ≡ found_or (head? cs) = rw en_is (step_after t bs c cs e) in
      let next = shown t cs k (of.passed passed ∙ says) w.shown w.is.buffer of.other s.long in
      let rest = tour (bs ++ (c ∷ [])) cs (e ∙ sym (append_assoc bs (c ∷ []) cs)) ws next in
      (ap₂ (λ (v : Visit) (l : List Visit). v ∷ l) (λ i. record { entry = en_is i; key = key_is i }) rest.0, rest.1)

pub walk_means_lem : walk_means
unfolding seek_says seek_of
walk_means_lem t passed p k fits long r k' w vs last ws =
    let rest = onward_rest p (plain t) in
    let of = w.is.table fits long in
    tour t passed rest.0 (onward p (plain t)) rest.1 ws
    (shown t (onward p (plain t)) k (of.passed passed ∙ ap found_or (first_onward p (plain t))) w.shown w.is.buffer of.other long)

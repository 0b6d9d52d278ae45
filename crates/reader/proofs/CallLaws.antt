-- From what a table tells to what a call answers: refusals first, and the key handed over.
use Prim.Native.Nat.{ℕ, ◌-◌, ◌≤◌, ◌<◌}
use mathlib.Core.Path.{◌≡◌, refl, sym, ◌∙◌, ap, subst}
use mathlib.Core.List.{List, []}
use mathlib.Core.Bool.{Bool, true, false, false≢true}
use mathlib.Core.Option.{Option, none, some}
use native.Mathlib.Omega.{arith}
use lib.Dec.{T}
use lib.ListN.{length, take, drop, length-take, length-drop}
use lib.Seq.{take_all}
use Rattle.codec.specs.Bytes.{part}
use Rattle.codec.specs.Put.{put}
use Rattle.codec.specs.Shown.{Shown}
use Rattle.codec.proofs.Lists.{no_length}
use Rattle.keys.specs.Order.{Point}
use Rattle.table_block.specs.declared.footer.Footer as Declared
use Rattle.table_block.specs.Answers.{footer_answer}
use Rattle.table.specs.Checked.{Checked, pass, refuse, ◌>>=◌, ask, or_refuse}
use Rattle.table.specs.Table.{Found, Footer, footer, footer_handles, placed, opened, full_check}
use Rattle.table.specs.Promise.{Passed}
use Rattle.table.specs.Reads
use Rattle.table.specs.Reads.{Answer, refused, point_fits, seek_says, lookup_says, step_says, listed, buffer_after}
use Rattle.table.specs.Runs.{overlay}
use Rattle.table.proofs.OverlayLaws.{overlay_none, overlay_put}
use Rattle.table_block.proofs.RefusalLaws.{ok_is, err_is, ok_not_err, err_not_ok}
use Rattle.codec.specs.Varint.{Handle}
use Rattle.table.proofs.CheckedLaws.{refuse_pass}
use Rattle.reader.specs.declared.table_reader.Entry.{Entry}
use Rattle.std.specs.Prelude.{Ok, Err, None, Some}
use Rattle.table_block.specs.declared.refusal.Refusal.{Refusal}
use Rattle.table_block.specs.declared.refusal.Refusal.TheVariants as Why
use Rattle.reader.specs.Answers.{entry_of, Sought, sought_of, Looked, looked_of, Seeks, Looks, Steps}
use Rattle.reader.specs.Parts.{Footed, Unread, Indexed, Named, Holds, Tells, Short, IsLater, or_then, OrLater, Is, Kinded, IsKinded}
use Rattle.reader.proofs.AnswerLaws.{shows, by_entry, entry_short}

-- ---- an answer, or what comes later

module _ (t : List ℕ) (at : Handle) (start : ℕ) {r : Sought} where
  or_kept : {q : Sought} {b : List ℕ} (a : Answer) → r ≡ q → r ≡ sought_of a → Holds a b → T (listed t a) → ((c : Answer) → a ≡ or_then a c) → Tells sought_of t (OrLater t at start a) q b
  or_kept a e shown holds inside same = record { answer = a; shown = sym e ∙ shown; holds = holds; inside = inside; is = λ p s. same _ }

  pub or_entry : {e : Entry} {b : List ℕ} → r ≡ Ok (Some e) → (a : Answer) → r ≡ sought_of a → Holds a b → T (listed t a) → Tells sought_of t (OrLater t at start a) (Ok (Some e)) b
  unfolding or_then
  or_entry {b = b} e a shown holds inside = or_kept a e shown holds inside (λ c. by_entry (λ (a : Answer). a ≡ or_then a c) b a shown e holds (λ x s k. refl) (λ x s k. refl))

  pub or_refused : {why : Refusal} {b : List ℕ} → r ≡ Err why → (a : Answer) → r ≡ sought_of a → Holds a b → T (listed t a) → Tells sought_of t (OrLater t at start a) (Err why) b
  unfolding or_then
  or_refused e a shown holds inside = or_kept a e shown holds inside (λ c. rw (shows a shown e).2)

  pub or_then_lem : {q : Sought} {b' : List ℕ} → r ≡ Ok None → Tells sought_of t (IsLater t at start) q b' → (a : Answer) → r ≡ sought_of a → Tells sought_of t (OrLater t at start a) q b'
  unfolding or_then
  or_then_lem e w a shown = rw (shows a shown e) w

-- ---- the key handed over

module _ {r : Sought} (k b : List ℕ) where
  pub hand_entry : {e : Entry} → r ≡ Ok (Some e) → Short r → 1032 ≤ length k → {k' : List ℕ} → k' ≡ put k 0 (take e.key_len b) → (a : Answer) → r ≡ sought_of a → Holds a b → k' ≡ buffer_after a k
  unfolding entry_of buffer_after
  hand_entry {e} is short l {k'} w a shown holds = by_entry (λ (a : Answer). k' ≡ buffer_after a k) b a shown is holds go go
    where
      go : (x : Found) → entry_of x ≡ e → take e.key_len b ≡ x.key → k' ≡ overlay x.key k
      go x s key = let n : length x.key ≡ e.key_len = ap (λ (y : Entry). y.key_len) s in w ∙ ap (put k 0) key ∙ overlay_put [] x.key k k 0 refl (overlay_none k) (omega (arith, entry_short is short))

  pub hand_none : r ≡ Ok None → (a : Answer) → r ≡ sought_of a → Holds a b → k ≡ buffer_after a k
  unfolding buffer_after
  hand_none e a shown holds = rw (shows a shown e)

  pub hand_refused : {why : Refusal} → r ≡ Err why → (a : Answer) → r ≡ sought_of a → Holds a b → k ≡ buffer_after a k
  unfolding buffer_after
  hand_refused e a shown holds = rw (shows a shown e).2

-- ---- 3 and 2

-- 3 and 2 of a seek and of a lookup alike
pub three : (t : List ℕ) (p : Point) (says : Answer) (k : List ℕ) → point_fits p ≡ false → Reads.Sought t p says k (refused 3) k
unfolding buffer_after
three t p says k e = record { three = λ f. refl; two = λ f l. absurd (false≢true (sym e ∙ f)); table = λ f l. absurd (false≢true (sym e ∙ f)); buffer = refl }

pub two : (t : List ℕ) (p : Point) (says : Answer) (k : List ℕ) → point_fits p ≡ true → length k < 1032 → Reads.Sought t p says k (refused 2) k
unfolding buffer_after
two t p says k e l = record { three = λ f. absurd (false≢true (sym f ∙ e)); two = λ f l. refl; table = λ f m. absurd (omega arith); buffer = refl }

-- and the table's
tabled : (t : List ℕ) (p : Point) {says : Answer} {k : List ℕ} {a : Answer} {k' : List ℕ} → point_fits p ≡ true → 1032 ≤ length k → Reads.Of t says a → k' ≡ buffer_after a k → Reads.Sought t p says k a k'
tabled t p f l of left = record { three = λ g. absurd (false≢true (sym g ∙ f)); two = λ g m. absurd (omega arith); table = λ g m. of; buffer = left }

-- an answer, as it is shown
pub as_shown : {R : Type 0} {show : Answer → R} {so : Answer → Type 0} (a : Answer) → so a → Shown show so (show a)
as_shown a w = record { answer = a; shown = refl; is = w }

pub step_two : (t : List ℕ) (i at : ℕ) (k : List ℕ) → length k < 1032 → Steps t i at k (Err Why.Short) k
unfolding sought_of buffer_after
step_two t i at k l = record { answer = refused 2; shown = refl; is = record { two = λ l. refl; table = λ m. absurd (omega arith); buffer = refl } }

-- ---- the footer

-- as code reads it
pub footer_stands : (t : List ℕ) {f : Declared.Footer} → footer_answer (footer t) ≡ Ok f → Footed t f
unfolding footer_answer
footer_stands t {f} e = record { reads = go (footer t) e }
  where
    go : (c : Checked Footer) → footer_answer c ≡ Ok f → c ≡ pass (record { metaindex = f.metaindex; index = f.index })
    go (pass g) e = ap (λ (x : Declared.Footer). pass (record { metaindex = x.metaindex; index = x.index })) (ok_is e)
    go (refuse n) e = err_not_ok e

pub footer_unread : (t : List ℕ) {why : Refusal} → footer_answer (footer t) ≡ Err why → Unread t why
unfolding footer_answer
footer_unread t {why} e = go (footer t) refl e
  where
    go : (c : Checked Footer) → footer t ≡ c → footer_answer c ≡ Err why → Unread t why
    go (pass g) is e = ok_not_err e
    go (refuse n) is e = record { reason = n; reads = is; is = err_is e }

-- where the metaindex and the index are
pub named : {t : List ℕ} {f : Declared.Footer} → Footed t f → Named t f.metaindex
named e = record { foot = _; reads = e.reads; metaindex = refl }

pub indexed : {t : List ℕ} {f : Declared.Footer} → Footed t f → Indexed t f.index
indexed e = record { foot = _; reads = e.reads; index = refl }

-- a refusal of the footer is 7 or 8
abbrev Fair : List ℕ → Checked Footer → Type 0
Fair t (pass f) = Unit {0}
Fair t (refuse n) = T (listed t (refused n))

fair_ask : (t : List ℕ) (n : ℕ) (b : Bool) (f : Unit {0} → Checked Footer) → T (listed t (refused n)) → Fair t (f tt) → Fair t (ask n b >>= f)
unfolding ask ◌>>=◌
fair_ask t n true f h g = g
fair_ask t n false f h g = h

fair_get : {A : Type 0} (t : List ℕ) (n : ℕ) (o : Option A) (f : A → Checked Footer) → T (listed t (refused n)) → ((a : A) → Fair t (f a)) → Fair t (or_refuse n o >>= f)
unfolding or_refuse ◌>>=◌
fair_get t n none f h g = h
fair_get t n (some a) f h g = g a

footer_fair : (t : List ℕ) → Fair t (footer t)
unfolding footer footer_handles placed listed
footer_fair t =
    fair_ask t 7 _ _ tt (fair_ask t 7 _ _ tt (fair_ask t 7 _ _ tt (fair_get t 8 _ _ tt (λ m. fair_get t 8 _ _ tt (λ i. fair_ask t 8 _ _ tt (fair_ask t 8 _ _ tt tt))))))

-- a table whose footer is refused does not pass
not_passed : (t : List ℕ) {n : ℕ} → footer t ≡ refuse n → Passed t → ⊥
unfolding full_check opened ◌>>=◌
not_passed t {n} e p = refuse_pass {A = Unit {0}} {n = n} {a = tt} (rw e at p)

of_refused : (t : List ℕ) (says : Answer) {n : ℕ} → footer t ≡ refuse n → Reads.Of t says (refused n)
of_refused t says {n} e =
    record {
      footed = λ m f. let x : n ≡ m = cc in ap refused x;
      passed = λ p. absurd (not_passed t e p);
      other = subst (Fair t) e (footer_fair t);
    }

of_answer : (t : List ℕ) {at : Handle} → Indexed t at → {says : Answer} (a : Answer) → (Passed t → a ≡ says) → T (listed t a) → Reads.Of t says a
of_answer t i a is inside = record { footed = λ n f. absurd (refuse_pass (sym f ∙ i.reads)); passed = is; other = inside }

module _ (t : List ℕ) (k : List ℕ) (l : 1032 ≤ length k) where
  module _ {why : Refusal} (u : Unread t why) where
    footed : (p : Point) {says : Answer} → point_fits p ≡ true → Reads.Sought t p says k (refused u.reason) k
    unfolding buffer_after
    footed p {says} f = tabled t p f l (of_refused t says u.reads) refl

    pub seek_footed : (p : Point) → point_fits p ≡ true → Seeks t p k (Err why) k
    unfolding sought_of
    seek_footed p f = record { answer = refused u.reason; shown = ap Err (sym u.is); is = footed p f }

    pub look_footed : (p : Point) → point_fits p ≡ true → Looks t p k (Err why) k
    unfolding looked_of
    look_footed p f = record { answer = refused u.reason; shown = ap Err (sym u.is); is = footed p f }

    pub step_footed : (i at : ℕ) → Steps t i at k (Err why) k
    unfolding sought_of buffer_after
    step_footed i at = record { answer = refused u.reason; shown = ap Err (sym u.is); is = record { two = λ m. absurd (omega arith); table = λ m. of_refused t (step_says t i at) u.reads; buffer = refl } }

  module _ {h : Handle} (i : Indexed t h) {r q : Sought} {b k' : List ℕ} (same : q ≡ r) (handed : (a : Answer) → r ≡ sought_of a → Holds a b → k' ≡ buffer_after a k) where
    pub seek_found : (p : Point) → point_fits p ≡ true → Tells sought_of t (Is t (seek_says t p)) r b → Seeks t p k q k'
    seek_found p f w = record { answer = w.answer; shown = same ∙ w.shown; is = tabled t p f l (of_answer t i w.answer w.is w.inside) (handed w.answer w.shown w.holds) }

    pub look_found : (p : Point) → point_fits p ≡ true → Tells sought_of t (IsKinded t (lookup_says t p)) r b → {g : Looked} → ((a : Answer) → q ≡ sought_of a → Holds a b → Kinded a → g ≡ looked_of a) → Looks t p k g k'
    look_found p f w kind =
        record { answer = w.answer; shown = kind w.answer (same ∙ w.shown) w.holds w.is.1; is = tabled t p f l (of_answer t i w.answer w.is.0 w.inside) (handed w.answer w.shown w.holds) }

    pub step_found : (ix at : ℕ) → Tells sought_of t (Is t (step_says t ix at)) r b → Steps t ix at k q k'
    step_found ix at w =
        record { answer = w.answer; shown = same ∙ w.shown; is = record { two = λ m. absurd (omega arith); table = λ m. of_answer t i w.answer w.is w.inside; buffer = handed w.answer w.shown w.holds } }

-- ---- a part of the table

module _ (t : List ℕ) (from len : ℕ) where
  pub part_past : length t < from → take (length t - length t) (drop (length t) t) ≡ part t from len
  unfolding part
  part_past h =
      no_length (take (length t - length t) (drop (length t) t)) (simp (length-take, length-drop) (omega arith))
      ∙ sym (no_length (take len (drop from t)) (simp (length-take, length-drop) (omega arith)))

  pub part_rest : length t - from < len → take (length t - from) (drop from t) ≡ part t from len
  unfolding part
  part_rest l = take_all (length t - from) (drop from t) (omega (arith, length-drop from t)) ∙ sym (take_all len (drop from t) (omega (arith, length-drop from t)))

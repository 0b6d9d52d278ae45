-- What a seek in a table that passes finds, and a lookup in a finished one.
use Prim.Native.Nat.{ℕ, ◌≤◌}
use mathlib.Core.Path.{◌≡◌, refl, sym, ◌∙◌, ap, ap₂, subst}
use mathlib.Core.List.Memᴰ
use mathlib.Core.List.{List, [], ◌∷◌, map, Memᴰ}
use mathlib.Core.Bool.{true}
use mathlib.Core.Option.{Option, none, some}
use lib.Dec.{T_not}
use lib.ListN.{length}
use borrow.Author.Tests.{eqb-true, eqb-false}
use Rattle.codec.proofs.Prelude.{apart}
use Rattle.codec.proofs.Lists.{mem_unmap}
use Rattle.keys.specs.Order.{Point, user_of, seq_of, kind_of}
use Rattle.table.specs.Options.{Addition}
use Rattle.table.specs.Runs.{overlay}
use Rattle.table.specs.Table.{plain, Found}
use Rattle.table.specs.Promise.{Passed, not_below, seek_of, lookup_of, Newest, addition_of}
use Rattle.codec.specs.Limits.{within}
use Rattle.codec.specs.Shown.{Shown}
use Rattle.table.specs.Reads
use Rattle.table.specs.Reads.{point_fits, Answer, found_or, by_kind, seek_says, lookup_says, buffer_after}
use Rattle.table.proofs.SearchLaws.{seek_means_lem, lookup_means_lem, seek_none_means, lookup_none_means}
use Rattle.table.proofs.PlaceLaws.{values_stand_lem}
use Rattle.table.proofs.OverlayLaws.{overlay_front}
use Rattle.table.proofs.ReadsLaws.{by_kind_lem}
use Rattle.reader.specs.declared.table_reader.Entry.{Entry}
use Rattle.std.specs.Prelude.{Ok, Err}
use Rattle.reader.specs.declared.table_reader.Found.TheVariants as FoundCase
use Rattle.reader.specs.Answers.{entry_of, Sought, sought_of, Looked, looked_of}
use Rattle.reader.specs.Walk.{least_point, visit_of}
use Rattle.reader.proofs.TourLaws.{walk_means_lem}
use Rattle.reader.proofs.LeastLaws.{whole_walk_lem}
use Rattle.promise.specs.Demand.{shown_by, walk_shows_additions, Gives, SeeksLeast, seek_finds_least, LooksNewest, lookup_finds_newest, NewestOf, Shows, LooksUp, lookup_says_additions}
use Rattle.promise.proofs.BuiltLaws.{finished_reads_lem}

-- an entry of the plain reading, its key laid over the buffer
gives : (t : List ℕ) (x : Found) → Memᴰ x (plain t) → (k k' : List ℕ) → k' ≡ overlay x.key k → {e : Entry} → entry_of x ≡ e → Gives t k' e x
unfolding entry_of
gives t x m k k' b {e} is =
    subst (λ (y : Entry). Gives t k' y x) is (record { place = refl; key = overlay_front x.key k' k b; value = sym (values_stand_lem t x m) })

-- a passed table shows what it says
says : {R : Type 0} {show : Answer → R} {t : List ℕ} {p : Point} {s : Answer} (k : List ℕ) {r : R} {k' : List ℕ} → Passed t → point_fits p ≡ true → 1032 ≤ length k
    → Shown show (λ a. Reads.Sought t p s k a k') r → (r ≡ show s) × (k' ≡ buffer_after s k)
says {show = show} k q f l w = let e = (w.is.table f l).passed q in (w.shown ∙ ap show e, w.is.buffer ∙ ap (λ (a : Answer). buffer_after a k) e)

-- ---- seek

module _ (t : List ℕ) (q : Passed t) (p : Point) where
  by_seek : (o : Option Found) → seek_of t p ≡ o → (k : List ℕ) {r : Sought} {k' : List ℕ} → (r ≡ sought_of (found_or o)) × (k' ≡ buffer_after (found_or o) k) → SeeksLeast t p k r k'
  unfolding sought_of found_or buffer_after
  by_seek none is k (e, b) =
      rw e (record {
        none = (λ _ x m n. T_not (not_below p x) ((seek_none_means t p).0 is x m) n, λ _. refl);
        kept = λ _. b;
        entry = λ en g. apart cc;
        answers = λ n g. apart cc;
      })
  by_seek (some x) is k {k' = k'} (e, b) =
      let l = (seek_means_lem t p q x).0 is in
      rw e (record {
        none = (λ g. apart cc, λ f. absurd (f x l.stands l.reaches));
        kept = λ g. apart cc;
        entry = λ en g. let w : entry_of x ≡ en = cc in (x, l, gives t x l.stands k k' b w);
        answers = λ n g. apart cc;
      })

pub seek_finds_least_lem : seek_finds_least
unfolding seek_says
seek_finds_least_lem t q p f k l r k' s = by_seek t q p (seek_of t p) refl k (says k q f l s)

-- ---- lookup

-- an entry as a lookup shows it, by its kind
abbrev Kind : Found → Looked → Type 0
Kind x (Ok (FoundCase.Entry e)) = (kind_of x.key ≡ 0 → ⊥) × (entry_of x ≡ e)
Kind x (Ok (FoundCase.Deleted e)) = (kind_of x.key ≡ 0) × (entry_of x ≡ e)
Kind x (Ok FoundCase.Absent) = ⊥
Kind x (Err why) = ⊥

kind : (x : Found) (k : List ℕ) → Kind x (looked_of (by_kind (some x))) × (buffer_after (by_kind (some x)) k ≡ overlay x.key k)
unfolding looked_of buffer_after
kind x k =
    by_kind_lem (λ (a : Answer). Kind x (looked_of a) × (buffer_after a k ≡ overlay x.key k)) x
    (λ z. ((eqb-true (kind_of x.key) 0 z, refl), refl))
    (λ z. ((eqb-false (kind_of x.key) 0 z, refl), refl))

module _ (t : List ℕ) (q : Passed t) (p : Point) where
  by_lookup : (o : Option Found) → lookup_of t p ≡ o → (k : List ℕ) {r : Looked} {k' : List ℕ} → (r ≡ looked_of (by_kind o)) × (k' ≡ buffer_after (by_kind o) k) → LooksNewest t p k r k'
  unfolding by_kind looked_of buffer_after
  by_lookup none is k (e, b) =
      rw e (record {
        absent = (λ _. (lookup_none_means t p).0 is, λ _. refl);
        kept = λ _. b;
        entry = λ en g. apart cc;
        gone = λ en g. apart cc;
        answers = λ n g. apart cc;
      })
  by_lookup (some x) is k {r} {k'} (e, b) =
      let n = (lookup_means_lem t p q x).0 is in
      let shown : (c : Looked) → r ≡ c → Kind x c = λ c g. subst (Kind x) (sym e ∙ g) (kind x k).0 in
      let given : (en : Entry) → entry_of x ≡ en → Gives t k' en x = λ en g. gives t x n.stands k k' (b ∙ (kind x k).1) g in
      record {
        absent = (λ g. absurd (shown _ g), λ f. absurd (f x n.stands n.is_word n.not_newer));
        kept = λ g. absurd (shown _ g);
        entry = λ en g. let w = shown _ g in (x, n, w.0, given en w.1);
        gone = λ en g. let w = shown _ g in (x, n, w.0, given en w.1);
        answers = λ m g. shown _ g;
      }

pub lookup_finds_newest_lem : lookup_finds_newest
unfolding lookup_says
lookup_finds_newest_lem t q p f k l r k' s = by_lookup t q p (lookup_of t p) refl k (says k q f l s)

-- ---- lookup in what was built

module _ (t : List ℕ) (xs : List Addition) (all : map addition_of (plain t) ≡ xs) (p : Point) where
  -- an addition was read from an entry
  read_from_lem : {a : Addition} → Memᴰ a xs → (x : Found) × Memᴰ x (plain t) × (a ≡ addition_of x)
  read_from_lem {a} m = mem_unmap addition_of (plain t) (subst (λ (l : List Addition). Memᴰ a l) (sym all) m)

  added : (x : Found) → Memᴰ x (plain t) → Memᴰ (addition_of x) xs
  added x m = subst (λ (l : List Addition). Memᴰ (addition_of x) l) all (Memᴰ.map addition_of m)

  -- of the newest entry: the newest addition
  newest_of : (x : Found) → Newest t p x → NewestOf xs p (addition_of x)
  unfolding addition_of
  newest_of x n =
      record {
        stands = added x n.stands;
        is_word = n.is_word;
        not_newer = n.not_newer;
        newest = λ b m w l. go b (read_from_lem m) w l;
      }
    where
      go : (b : Addition) → (y : Found) × Memᴰ y (plain t) × (b ≡ addition_of y) → b.word ≡ p.word → b.edition ≤ p.edition → b.edition ≤ (addition_of x).edition
      go b r w l =
          let e = r.2 in
          subst (λ (c : Addition). c.edition ≤ (addition_of x).edition) (sym e)
          (n.newest r.0 r.1 (ap (λ (c : Addition). c.word) (sym e) ∙ w) (subst (λ (c : Addition). c.edition ≤ p.edition) e l))

  shows : (x : Found) {k : List ℕ} {e : Entry} → Gives t k e x → Shows t k e (addition_of x)
  unfolding addition_of
  shows x g = record { value = g.value; word = ap user_of g.key; edition = ap seq_of g.key; kind = ap kind_of g.key }

  none_of : ((x : Found) → Memᴰ x (plain t) → user_of x.key ≡ p.word → seq_of x.key ≤ p.edition → ⊥) → (a : Addition) → Memᴰ a xs → a.word ≡ p.word → a.edition ≤ p.edition → ⊥
  unfolding addition_of
  none_of f a m w l =
      let r = read_from_lem m in
      f r.0 r.1 (ap (λ (c : Addition). c.word) (sym r.2) ∙ w) (subst (λ (c : Addition). c.edition ≤ p.edition) r.2 l)

  looks_up : {k : List ℕ} {r : Looked} {k' : List ℕ} → LooksNewest t p k r k' → LooksUp t xs p k r k'
  unfolding addition_of
  looks_up n =
      record {
        absent = (λ e. none_of (n.absent.0 e), λ f. n.absent.1 (λ x m w l. f (addition_of x) (added x m) w l));
        kept = n.kept;
        entry = λ e g. let y = n.entry e g in (addition_of y.0, newest_of y.0 y.1, y.2, shows y.0 y.3);
        gone = λ e g. let y = n.gone e g in (addition_of y.0, newest_of y.0 y.1, y.2, shows y.0 y.3);
        answers = n.answers;
      }

pub lookup_says_additions_lem : lookup_says_additions
lookup_says_additions_lem o xs t w p f k l r k' s =
    let d = finished_reads_lem o xs t w in
    looks_up t xs d.1 p (lookup_finds_newest_lem t d.0 p f k l r k' s)

-- ---- walk

module _ (t : List ℕ) where
  shown_one : (x : Found) → Memᴰ x (plain t) → shown_by t (visit_of x) ≡ addition_of x
  unfolding shown_by visit_of entry_of addition_of
  shown_one x m = λ i. record { word = user_of x.key; edition = seq_of x.key; kind = kind_of x.key; value = sym (values_stand_lem t x m) i }

  shown_all : (xs : List Found) → ((x : Found) → Memᴰ x xs → Memᴰ x (plain t)) → map (shown_by t) (map visit_of xs) ≡ map addition_of xs
  shown_all [] f = refl
  shown_all (x ∷ xs) f = ap₂ ◌∷◌ (shown_one x (f x (Memᴰ.head refl))) (shown_all xs (λ y m. f y (Memᴰ.tail m)))

pub walk_shows_additions_lem : walk_shows_additions
walk_shows_additions_lem o xs t w bytes k l r k' s vs last walked =
    let d = finished_reads_lem o xs t w in
    let m = walk_means_lem t d.0 least_point k (unfold least_point point_fits within in refl) l r k' s vs last walked in
    (ap (map (shown_by t)) (m.0 ∙ ap (map visit_of) (whole_walk_lem t bytes d.0)) ∙ shown_all t (plain t) (λ x i. i) ∙ d.1, m.1)

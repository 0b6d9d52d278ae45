-- Reading on from a place of a block's entries, one entry at a time.
use Prim.Native.Nat.{ℕ, suc, ◌+◌, ◌≤◌, ◌<◌}
use mathlib.Core.Path.{◌≡◌, refl, sym, ap, ◌∙◌}
use mathlib.Core.List.{List, [], ◌∷◌}
use mathlib.Core.Bool.{false, ◌&&◌}
use mathlib.Core.Option.{Option, none, some, some_inj, none-ne-some}
use native.Mathlib.Omega.{arith}
use lib.Dec.{T, eqb, leb, leb→le}
use lib.ListN.{length, drop}
use borrow.Author.Tests.{eq-eqb, ne_eqb}
use Rattle.codec.specs.Maybe.{◌>>=◌}
use Rattle.codec.proofs.MaybeLaws.{getting, giving, gets, gives}
use Rattle.codec.proofs.Prelude.{and_l, and_r}
use Rattle.block_reader.specs.declared.block.EntryRead.{EntryRead}
use Rattle.blocks.specs.Block.{Pair, Entry, entry, next, entries_f, pairs_of}
use Rattle.blocks.specs.Formed.{all}
use Rattle.block_reader.specs.Said.{Found, found_answer, buffer_left}
use Rattle.block_reader.specs.Steps.{entries_from, read_from, Taken, Untaken, Told}
use Rattle.blocks.proofs.ReadLaws.{entry_ends, fuel_enough}

-- what is said of a key is said of the same key
pub said_of : {A B : Type 0} (f : A → B) {q k : A} {r b : B} → q ≡ k → r ≡ f q → r ≡ b → f k ≡ b
said_of f same said is = ap f (sym same) ∙ sym said ∙ is

-- ---- the entries from a place on

module _ (d : List ℕ) (at : ℕ) (before : List ℕ) where
  pub from_end : at ≡ length d → entries_from d at before ≡ some []
  unfolding entries_from entries_f
  from_end e = rw (eq-eqb at (length d) e, entries_f)

  module _ (inside : at < length d) where
    not_end : eqb at (length d) ≡ false
    not_end = ne_eqb at (length d) (λ e. omega arith)

    pub from_none : entry at before (drop at d) ≡ none → entries_from d at before ≡ none
    unfolding entries_from entries_f ◌>>=◌
    from_none e = rw (not_end, entries_f, e)

    pub from_some : {e : Entry} → entry at before (drop at d) ≡ some e → entries_from d at before ≡ entries_from d (next e) e.key >>= (λ es. some (e ∷ es))
    unfolding entries_from entries_f
    from_some {e} read =
        let ends = entry_ends at before d (omega arith) read in
        rw (not_end, entries_f)
        (gets _ _ read (ap (λ (o : Option (List Entry)). o >>= (λ es. some (e ∷ es)))
        (fuel_enough (length d) (suc (length d)) d (next e) e.key ends.1 (omega arith) (omega arith))))

-- ---- the same, where all their keys have at most 1,032 bytes

-- the first of them, and the rest
pub record Nexts (d : List ℕ) (at : ℕ) (before : List ℕ) (es : List Entry) : Type 0 where
  pub here : Entry
  pub rest : List Entry
  pub is : es ≡ here ∷ rest
  pub reads : entry at before (drop at d) ≡ some here
  pub short : length here.key ≤ 1032
  pub onward : read_from d (next here) here.key ≡ some rest

module _ (d : List ℕ) (at : ℕ) (before : List ℕ) {es : List Entry} (read : read_from d at before ≡ some es) where
  pub read_end : at ≡ length d → es ≡ []
  unfolding read_from
  read_end e =
      getting _ _ read λ fs from p.
      giving _ _ p λ short p.
      sym (some_inj.0 p) ∙ some_inj.0 (sym from ∙ from_end d at before e)

  pub read_next : at < length d → Nexts d at before es
  unfolding read_from all
  read_next inside =
      getting _ _ read λ fs from p.
      giving _ _ p λ short p.
      go (entry at before (drop at d)) refl fs from short (sym (some_inj.0 p))
    where
      go : (o : Option Entry) → entry at before (drop at d) ≡ o → (fs : List Entry) → entries_from d at before ≡ some fs
          → T (all (λ (p : Pair). leb (length p.key) 1032) (pairs_of fs)) → es ≡ fs → Nexts d at before es
      go none r fs from short same = absurd (none-ne-some fs (sym (from_none d at before inside r) ∙ from))
      go (some e) r fs from short same =
          getting _ _ (sym (from_some d at before inside r) ∙ from) λ gs more p.
          let is : fs ≡ e ∷ gs = sym (some_inj.0 p) in
          let all_short : T (leb (length e.key) 1032 && all (λ (p : Pair). leb (length p.key) 1032) (pairs_of gs)) = rw is at short in
          record {
            here = e;
            rest = gs;
            is = same ∙ is;
            reads = r;
            short = leb→le _ _ (and_l (leb (length e.key) 1032) _ all_short);
            onward = gets _ _ more (gives _ _ (and_r (leb (length e.key) 1032) _ all_short) refl);
          }

-- ---- a loop over the entries from a place on

-- what is left of a reading, and what holds of it
pub record Left (d : List ℕ) (P : List Entry → Type 0) (p : ℕ) (before : List ℕ) : Type 0 where
  pub rest : List Entry
  pub reads : read_from d p before ≡ some rest
  pub same : P rest

-- between two turns: behind a key, P holds of all entries and those that are left
pub record Scanning (d : List ℕ) (from : ℕ) (P : List Entry → List Entry → Type 0) (before : List ℕ) (p : ℕ) : Type 0 where
  pub within : p ≤ length d
  pub left : (es : List Entry) → read_from d from [] ≡ some es → Left d (P es) p before

-- the same is said of those that are left as of all
abbrev pub Same : {R : Type 0} → (List Entry → R) → List Entry → List Entry → Type 0
Same says es rest = says es ≡ says rest

pub scan_start : (d : List ℕ) (from : ℕ) (P : List Entry → List Entry → Type 0) → from ≤ length d → ((es : List Entry) → P es es) → Scanning d from P [] from
scan_start d from P w h = record { within = w; left = λ es read. record { rest = es; reads = read; same = h es } }

-- no entry, or one with a longer key, can be read there
pub no_read : (d : List ℕ) (p : ℕ) (before : List ℕ) → p < length d → Untaken d p before → (es : List Entry) → read_from d p before ≡ some es → ⊥
no_read d p before inside bad es read =
    let x = read_next d p before read inside in
    bad x.here x.reads x.short

-- the entry that was taken is the first
pub record Firsts (d key : List ℕ) (e : Entry) (p : ℕ) (es : List Entry) : Type 0 where
  pub rest : List Entry
  pub is : es ≡ e ∷ rest
  pub onward : read_from d p key ≡ some rest

pub taken_first : {d : List ℕ} {p : ℕ} {before : List ℕ} {e : EntryRead} {key : List ℕ} (t : Taken d p before e key) (es : List Entry) → read_from d p before ≡ some es
    → Firsts d key t.here (e.value_at + e.value_len) es
taken_first {d} {p} {before} {e} {key} t es read = go (read_next d p before read (omega (arith, t.up, t.within)))
  where
    go : Nexts d p before es → Firsts d key t.here (e.value_at + e.value_len) es
    go x =
        let same : x.here ≡ t.here = some_inj.0 (sym x.reads ∙ t.reads) in
        record { rest = x.rest; is = x.is ∙ ap (λ (h : Entry). h ∷ x.rest) same; onward = rw (← t.ends, t.key) (rw same at x.onward) }

module _ {d : List ℕ} {from : ℕ} {P : List Entry → List Entry → Type 0} {before : List ℕ} {p : ℕ} (w : Scanning d from P before p) where
  pub scan_bad : p < length d → Untaken d p before → (es : List Entry) → read_from d from [] ≡ some es → ⊥
  scan_bad inside bad es read = let l = w.left es read in no_read d p before inside bad l.rest l.reads

  pub scan_end : length d ≤ p → (es : List Entry) → read_from d from [] ≡ some es → P es []
  scan_end h es read =
      let l = w.left es read in
      rw (read_end d p before l.reads (omega (arith, w.within))) at l.same

  module _ {e : EntryRead} {key : List ℕ} (t : Taken d p before e key) where
    pub scan_more : (Q : List Entry → List Entry → Type 0) → ((es rest : List Entry) → P es (t.here ∷ rest) → Q es rest) → Scanning d from Q key (e.value_at + e.value_len)
    scan_more Q step =
        record {
          within = t.within;
          left = λ es read.
              let l = w.left es read in
              let f = taken_first t l.rest l.reads in
              record { rest = f.rest; reads = f.onward; same = step es f.rest (rw f.is at l.same) };
        }

    pub scan_hit : (X : List Entry → Type 0) → ((es rest : List Entry) → P es (t.here ∷ rest) → X es) → (es : List Entry) → read_from d from [] ≡ some es → X es
    scan_hit X hit es read =
        let l = w.left es read in
        let f = taken_first t l.rest l.reads in
        hit es f.rest (rw f.is at l.same)

-- what is said of the entries from one place on, said of those from another
pub told_by : {d : List ℕ} {at : ℕ} {before : List ℕ} {says : List Entry → Option (Option Entry)} {p : ℕ} {key : List ℕ} {says' : List Entry → Option (Option Entry)} {k : List ℕ} {r : Found} {k' : List ℕ}
    → ((es : List Entry) → read_from d at before ≡ some es → Left d (λ rest. says es ≡ says' rest) p key) → Told d p key says' k r k' → Told d at before says k r k'
told_by on t =
    record {
      answer = λ es read. let l = on es read in t.answer l.rest l.reads ∙ ap (found_answer _) (sym l.same);
      buffer = λ es read. let l = on es read in t.buffer l.rest l.reads ∙ ap (buffer_left _) (sym l.same);
      inside = t.inside;
    }

pub scan_told : {d : List ℕ} {from : ℕ} {says : List Entry → Option (Option Entry)} {before : List ℕ} {p : ℕ} (w : Scanning d from (Same says) before p)
    {key : List ℕ} {r : Found} {key' : List ℕ} → Told d p before says key r key' → Told d from [] says key r key'
scan_told w t = told_by w.left t

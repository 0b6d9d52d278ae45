-- The check of a block, entry by entry: what one entry leaves of it, and what the whole comes to.
use Prim.Native.Nat.{ℕ, suc, ◌+◌, ◌-◌, ◌≤◌, ◌<◌}
use mathlib.Core.Path.{◌≡◌, refl, sym, ap, ap₂, ◌∙◌}
use mathlib.Core.List.{List, [], ◌∷◌}
use mathlib.Core.Bool.{Bool, true, false, ◌&&◌, ◌||◌, not, and-true, and-false, and_comm, false≢true}
use mathlib.Core.Option.{Option, none, some}
use native.Mathlib.Omega.{arith}
use lib.Dec.{eqb, leb}
use lib.ListN.{length, take, drop, length-drop}
use lib.Seq.{drop-drop}
use borrow.Author.Tests.{eq-eqb, ne_eqb, eqb-true, eqb-false, lt-leb}
use Rattle.std.specs.Prelude.{None, is_some}
use Rattle.codec.specs.Answers.{given}
use Rattle.codec.specs.Bytes.{numbers, same_bytes}
use Rattle.codec.specs.Maybe.{◌>>=◌, ask}
use Rattle.codec.specs.Varint.{Handle, one_handle}
use Rattle.codec.proofs.Prelude.{test, split}
use Rattle.block_reader.specs.declared.block.EntryRead.{EntryRead}
use Rattle.block_reader.specs.declared.block.Kind as KindEnum
use Rattle.block_reader.specs.declared.block.Kind.TheVariants as KindCase
use Rattle.blocks.specs.Block.{Pair, Entry, entry, next, entries_f, pairs_of, restarts_stand, first_is_zero, Block, block}
use Rattle.codec.specs.Limits.{within}
use Rattle.blocks.specs.Formed.{Kind, bloom_name, data_block, index_block, meta_block, is_handle, entry_fits, all, enough, well_formed, is_formed}
use Rattle.block_reader.specs.Steps.{Taken, Untaken, rows_of, Laid, restart_at, entries_from, marks, filled_from, Onward}
use Rattle.block_reader.specs.Said.{kind_of}
use Rattle.blocks.proofs.ReadLaws.{entry_start}
use Rattle.blocks.proofs.FormedLaws.{as_pair}
use Rattle.block_reader.proofs.RestLaws.{value_lent}
use Rattle.block_reader.proofs.LayoutLaws.{restarts_from, numbers_length, no_block, block_is, entries_size}
use Rattle.block_reader.proofs.WalkLaws.{from_end, from_none, from_some}

-- ---- a value that is a handle

pub one_handle_is : (s : List ℕ) → is_some (given (one_handle s)) ≡ is_handle s
unfolding is_handle given
one_handle_is s = go (one_handle s)
  where
    go : (o : Option Handle) → is_some (given o) ≡ elim o as (λ (_ : Option Handle). Bool) [ none ↦ false | some h ↦ true ]
    go none = refl
    go (some h) = refl

-- ---- the limits of a kind

pub and_with : {a t : Bool} (b : Bool) → a ≡ t → a && b ≡ t && b
and_with b e = rw e

pub or_with : {a t : Bool} (b : Bool) → a ≡ t → a || b ≡ t || b
or_with b e = rw e

module _ {kind : KindEnum.Kind} (p : Pair) where
  pub limits_data : kind ≡ KindCase.Data → entry_fits (kind_of kind) p ≡ within 9 1032 (length p.key) && leb (length p.value) 32768
  unfolding kind_of entry_fits
  limits_data e = rw e

  pub limits_index : kind ≡ KindCase.Index → entry_fits (kind_of kind) p ≡ within 9 1032 (length p.key) && is_handle p.value
  unfolding kind_of entry_fits
  limits_index e = rw e

  pub limits_meta : kind ≡ KindCase.Metaindex → entry_fits (kind_of kind) p ≡ within 1 1032 (length p.key) && (not (same_bytes p.key bloom_name) || is_handle p.value)
  unfolding kind_of entry_fits
  limits_meta e = rw e

-- a block without entries
module _ {kind : KindEnum.Kind} (b : Bool) where
  pub empty_data : kind ≡ KindCase.Data → b && enough (kind_of kind) [] ≡ false
  unfolding kind_of enough
  empty_data e = rw e (and-false b)

  pub empty_other : {k : KindEnum.Kind} → kind ≡ k → enough (kind_of k) [] ≡ true → b && enough (kind_of kind) [] ≡ b
  empty_other e h = rw (e, h) (and-true b)

-- ---- one entry

-- the test of entries that were read
judged : Kind → List ℕ → Option (List Entry) → Bool
judged kind rs none = false
judged kind rs (some es) = all (entry_fits kind) (pairs_of es) && restarts_stand rs es

filled_judged : (kind : Kind) (d : List ℕ) (at : ℕ) (before rs : List ℕ) → filled_from kind d at before rs ≡ judged kind rs (entries_from d at before)
unfolding filled_from judged
filled_judged kind d at before rs = go (entries_from d at before)
  where
    go : (o : Option (List Entry))
        → elim o as (λ (_ : Option (List Entry)). Bool) [ none ↦ false | some es ↦ all (entry_fits kind) (pairs_of es) && restarts_stand rs es ] ≡ judged kind rs o
    go none = refl
    go (some es) = refl

module _ (kind : Kind) (d : List ℕ) (at : ℕ) (before : List ℕ) where
  -- at the end no restart is left
  pub filled_end : (rs : List ℕ) → at ≡ length d → filled_from kind d at before rs ≡ eqb (length rs) 0
  unfolding judged all restarts_stand
  filled_end rs e = filled_judged kind d at before rs ∙ ap (judged kind rs) (from_end d at before e) ∙ go rs
    where
      go : (rs : List ℕ) → judged kind rs (some []) ≡ eqb (length rs) 0
      go [] = refl
      go (r ∷ rs) = sym (ne_eqb (length (r ∷ rs)) 0 (λ e. omega arith))

  module _ (inside : at < length d) where
    pub filled_none : (rs : List ℕ) → entry at before (drop at d) ≡ none → filled_from kind d at before rs ≡ false
    unfolding judged
    filled_none rs e = filled_judged kind d at before rs ∙ ap (judged kind rs) (from_none d at before inside e)

    module _ {e : Entry} (read : entry at before (drop at d) ≡ some e) where
      step : (rs : List ℕ) → filled_from kind d at before rs ≡ judged kind rs (entries_from d (next e) e.key >>= (λ es. some (e ∷ es)))
      step rs = filled_judged kind d at before rs ∙ ap (judged kind rs) (from_some d at before inside read)

      -- it fails, whatever entries follow
      fails : (rs : List ℕ) → ((es : List Entry) → judged kind rs (some (e ∷ es)) ≡ false) → filled_from kind d at before rs ≡ false
      unfolding judged ◌>>=◌
      fails rs h = step rs ∙ go (entries_from d (next e) e.key)
        where
          go : (o : Option (List Entry)) → judged kind rs (o >>= (λ es. some (e ∷ es))) ≡ false
          go none = refl
          go (some es) = h es

      -- or it comes, whatever entries follow, to the test of these
      onward : (rs qs : List ℕ) → ((es : List Entry) → judged kind rs (some (e ∷ es)) ≡ judged kind qs (some es)) → filled_from kind d at before rs ≡ filled_from kind d (next e) e.key qs
      unfolding judged ◌>>=◌
      onward rs qs h = step rs ∙ go (entries_from d (next e) e.key) ∙ sym (filled_judged kind d (next e) e.key qs)
        where
          go : (o : Option (List Entry)) → judged kind rs (o >>= (λ es. some (e ∷ es))) ≡ judged kind qs o
          go none = refl
          go (some es) = h es

      -- an entry outside the limits
      pub filled_wrong : (rs : List ℕ) → entry_fits kind (as_pair e) ≡ false → filled_from kind d at before rs ≡ false
      unfolding judged all
      filled_wrong rs f = fails rs (λ es. rw f)

      module _ (f : entry_fits kind (as_pair e) ≡ true) where
        -- no restart there
        pub filled_past : (rs : List ℕ) → marks at rs ≡ false → filled_from kind d at before rs ≡ filled_from kind d (next e) e.key rs
        unfolding judged all restarts_stand marks
        filled_past rs m = onward rs rs (λ es. rw (f, stands rs es m))
          where
            stands : (rs : List ℕ) (es : List Entry) → marks at rs ≡ false → restarts_stand rs (e ∷ es) ≡ restarts_stand rs es
            stands [] [] m = refl
            stands [] (g ∷ es) m = refl
            stands (r ∷ rs) es m = rw (entry_start at before (drop at d) read, m, restarts_stand)

        module _ (r : ℕ) (rs : List ℕ) (same : r ≡ at) where
          stands : (es : List Entry) → restarts_stand (r ∷ rs) (e ∷ es) ≡ eqb e.shared 0 && restarts_stand rs es
          unfolding restarts_stand
          stands es = rw (eq-eqb r e.start (same ∙ sym (entry_start at before (drop at d) read)), restarts_stand)

          -- a restart there, and the entry shares nothing
          pub filled_mark : e.shared ≡ 0 → filled_from kind d at before (r ∷ rs) ≡ filled_from kind d (next e) e.key rs
          unfolding judged all
          filled_mark z = onward (r ∷ rs) rs (λ es. rw (f, stands es, eq-eqb e.shared 0 z))

          -- it shares
          pub filled_shares : (e.shared ≡ 0 → ⊥) → filled_from kind d at before (r ∷ rs) ≡ false
          unfolding judged all
          filled_shares z = fails (r ∷ rs) (λ es. rw (f, stands es, ne_eqb e.shared 0 z) (and-false (all (entry_fits kind) (pairs_of es))))

-- a key over 1,032 bytes is outside the limits of every kind
within_over : (low n : ℕ) → 1032 < n → within low 1032 n ≡ false
unfolding within
within_over low n h = rw (lt-leb n 1032 h) (and-false (leb low n))

long_wrong : (kind : Kind) (p : Pair) → 1032 < length p.key → entry_fits kind p ≡ false
unfolding entry_fits
long_wrong data_block p h = rw (within_over 9 (length p.key) h)
long_wrong index_block p h = rw (within_over 9 (length p.key) h)
long_wrong meta_block p h = rw (within_over 1 (length p.key) h)

-- ---- one entry, as the code reads it

-- a restart there is the first of those left
marked_at : (at : ℕ) (qs : List ℕ) → marks at qs ≡ true → (0 < length qs) × (qs ≡ at ∷ drop 1 qs)
unfolding marks
marked_at at [] m = absurd (false≢true m)
marked_at at (q ∷ qs) m = (omega arith, ap (λ (r : ℕ). r ∷ qs) (eqb-true q at m))

-- none was read
pub pass_none : (kind : Kind) (d : List ℕ) (at : ℕ) (before qs : List ℕ) → at < length d → Untaken d at before → filled_from kind d at before qs ≡ false
pass_none kind d at before qs inside b = go (entry at before (drop at d)) refl
  where
    go : (o : Option Entry) → entry at before (drop at d) ≡ o → filled_from kind d at before qs ≡ false
    go none r = filled_none kind d at before inside qs r
    go (some e) r =
        split 1032 (length e.key)
        (λ h. filled_wrong kind d at before inside r qs (long_wrong kind (as_pair e) h))
        (λ h. absurd (b e r (omega arith)))

module _ (kind : Kind) {d : List ℕ} {at : ℕ} {before : List ℕ} {x : EntryRead} {key : List ℕ} (t : Taken d at before x key) where
  abbrev e : Entry
  e = t.here

  inside : at < length d
  inside = omega (arith, t.up, t.within)

  -- the limits, by the entry as the code lends it
  pub pass_judged : {r : Bool} {lent s : List ℕ} → lent ≡ key → s ≡ d → r ≡ entry_fits kind (record { key = lent; value = take (x.value_at + x.value_len - x.value_at) (drop x.value_at s) }) → r ≡ entry_fits kind (as_pair e)
  pass_judged p q said = said ∙ rw (p ∙ t.key, q, value_lent t)

  pub pass_wrong : (qs : List ℕ) → entry_fits kind (as_pair e) ≡ false → filled_from kind d at before qs ≡ false
  pass_wrong qs f = filled_wrong kind d at before inside t.reads qs f

  module _ (f : entry_fits kind (as_pair e) ≡ true) where
    on : (rs : List ℕ) (j i : ℕ) → i ≤ length rs → filled_from kind d at before (drop j rs) ≡ filled_from kind d (next e) e.key (drop i rs) → Onward kind d rs at before j (x.value_at + x.value_len) key i
    on rs j i h p = record { same = p ∙ ap₂ (λ (n : ℕ) (k : List ℕ). filled_from kind d n k (drop i rs)) t.ends (sym t.key); up = t.up; within = t.within; marks = h }

    pub pass_past : (rs : List ℕ) (j : ℕ) → marks at (drop j rs) ≡ false → j ≤ length rs → Onward kind d rs at before j (x.value_at + x.value_len) key j
    pass_past rs j h w = on rs j j w (filled_past kind d at before inside t.reads f (drop j rs) h)

    pub pass_mark : (rs : List ℕ) (j : ℕ) → marks at (drop j rs) ≡ true → x.shared ≡ 0 → Onward kind d rs at before j (x.value_at + x.value_len) key (j + 1)
    pass_mark rs j h z =
        let q = marked_at at (drop j rs) h in
        on rs j (j + 1) (omega (arith, q.0, length-drop j rs))
        (ap (filled_from kind d at before) (q.1 ∙ ap (◌∷◌ at) (drop-drop 1 j rs))
        ∙ filled_mark kind d at before inside t.reads f at (drop (j + 1) rs) refl (t.shared ∙ z))

    pub pass_shares : (qs : List ℕ) → marks at qs ≡ true → (x.shared ≡ 0 → ⊥) → filled_from kind d at before qs ≡ false
    pass_shares qs h z =
        ap (filled_from kind d at before) (marked_at at qs h).1
        ∙ filled_shares kind d at before inside t.reads f at (drop 1 qs) refl (λ p. z (sym t.shared ∙ p))

-- two equations of numbers, each of which follows from the other
same_eqb : (a b c d : ℕ) → (a ≡ b → c ≡ d) → (c ≡ d → a ≡ b) → eqb a b ≡ eqb c d
same_eqb a b c d f g =
    test (eqb a b)
    (λ t. t ∙ sym (eq-eqb c d (f (eqb-true a b t))))
    (λ t. t ∙ sym (ne_eqb c d (λ e. eqb-false a b t (g e))))

-- at the end
pub pass_end : (kind : Kind) (d rs : List ℕ) (at : ℕ) (before : List ℕ) (j : ℕ) → at ≤ length d → length d ≤ at → j ≤ length rs → eqb j (length rs) ≡ filled_from kind d at before (drop j rs)
pass_end kind d rs at before j h g w =
    same_eqb j (length rs) (length (drop j rs)) 0 (λ e. omega (arith, length-drop j rs)) (λ e. omega (arith, length-drop j rs))
    ∙ sym (filled_end kind d at before (drop j rs) (omega arith))

-- ---- a whole block

-- the tests of the entries of a whole block
whole : Kind → List ℕ → Option (List Entry) → Bool
whole kind rs none = false
whole kind rs (some es) = first_is_zero rs es && (enough kind (pairs_of es) && all (entry_fits kind) (pairs_of es))

-- the verdict on a block that was read, or not
abbrev verdict : Kind → Option Block → Bool
verdict kind o =
    elim (o >>= (λ b. ask (enough kind (pairs_of b.entries)) >>= (λ _. ask (all (entry_fits kind) (pairs_of b.entries)) >>= (λ _. some b.entries)))) as (λ (_ : Option (List Entry)). Bool) [
      | none ↦ false
      | some es ↦ true
    ]

asked : (q r : Bool) (es : List Entry) → elim (ask q >>= (λ _. ask r >>= (λ _. some es))) as (λ (_ : Option (List Entry)). Bool) [ none ↦ false | some es ↦ true ] ≡ q && r
unfolding ◌>>=◌ ask
asked true true es = refl
asked true false es = refl
asked false r es = refl

verdict_some : (kind : Kind) (p : Bool) (b : Block) → verdict kind (ask p >>= (λ _. some b)) ≡ p && (enough kind (pairs_of b.entries) && all (entry_fits kind) (pairs_of b.entries))
unfolding ◌>>=◌ ask
verdict_some kind false b = refl
verdict_some kind true b = asked (enough kind (pairs_of b.entries)) (all (entry_fits kind) (pairs_of b.entries)) b.entries

formed_verdict : (kind : Kind) (s : List ℕ) → is_formed kind s ≡ verdict kind (block s)
unfolding is_formed well_formed
formed_verdict kind s = refl

pub no_layout : (kind : Kind) (s : List ℕ) → given (rows_of s) ≡ None → false ≡ is_formed kind s
unfolding ◌>>=◌
no_layout kind s e = sym (formed_verdict kind s ∙ ap (verdict kind) (no_block s e))

enough_one : (kind : Kind) (p : Pair) (ps : List Pair) → enough kind (p ∷ ps) ≡ true
unfolding enough
enough_one data_block p ps = refl
enough_one index_block p ps = refl
enough_one meta_block p ps = refl

module _ (kind : Kind) (s : List ℕ) (end count : ℕ) (l : Laid s end count) where
  abbrev d : List ℕ
  d = take end s

  abbrev rs : List ℕ
  rs = numbers count (drop end s)

  size : length d ≡ end
  size = entries_size s l

  formed_is : is_formed kind s ≡ whole kind rs (entries_from d 0 [])
  unfolding entries_from whole ◌>>=◌
  formed_is = formed_verdict kind s ∙ ap (verdict kind) (block_is s l) ∙ go (entries_f (suc end) d 0 []) ∙ ap (λ (n : ℕ). whole kind rs (entries_f (suc n) d 0 [])) (sym size)
    where
      go : (o : Option (List Entry)) → verdict kind (o >>= (λ es. ask (first_is_zero rs es) >>= (λ _. some (record { entries = es; restarts = rs })))) ≡ whole kind rs o
      go none = refl
      go (some es) = verdict_some kind (first_is_zero rs es) (record { entries = es; restarts = rs })

  restarts_head : rs ≡ restart_at s end 0 ∷ drop 1 rs
  restarts_head = restarts_from s end count 0 l.some_restart

  -- the first restart is not 0
  pub formed_first : (restart_at s end 0 ≡ 0 → ⊥) → false ≡ is_formed kind s
  unfolding whole first_is_zero
  formed_first h = sym (formed_is ∙ ap (λ (q : List ℕ). whole kind q (entries_from d 0 [])) restarts_head ∙ go (entries_from d 0 []))
    where
      go : (o : Option (List Entry)) → whole kind (restart_at s end 0 ∷ drop 1 rs) o ≡ false
      go none = refl
      go (some []) = rw (ne_eqb (restart_at s end 0) 0 h)
      go (some (e ∷ es)) = rw (ne_eqb (restart_at s end 0) 0 h)

  module _ (z : restart_at s end 0 ≡ 0) where
    -- without entries
    pub formed_empty : end ≡ 0 → is_formed kind s ≡ eqb count 1 && enough kind []
    unfolding whole first_is_zero all
    formed_empty e =
        formed_is ∙ ap (whole kind rs) (from_end d 0 [] (sym (size ∙ e)))
        ∙ ap (λ (q : List ℕ). whole kind q (some [])) restarts_head
        ∙ rw (eq-eqb (restart_at s end 0) 0 z, one, and-true (enough kind []))
      where
        one : eqb (length (drop 1 rs)) 0 ≡ eqb count 1
        one =
            let n : length (restart_at s end 0 ∷ drop 1 rs) ≡ count = ap length (sym restarts_head) ∙ numbers_length count (drop end s) in
            same_eqb (length (drop 1 rs)) 0 count 1 (λ e. omega arith) (λ e. omega arith)

    -- with entries
    pub formed_filled : 0 < end → filled_from kind d 0 [] rs ≡ is_formed kind s
    unfolding whole judged first_is_zero ◌>>=◌
    formed_filled h = filled_judged kind d 0 [] rs ∙ ap (λ (q : List ℕ). judged kind q (entries_from d 0 [])) restarts_head ∙ go (entry 0 [] (drop 0 d)) refl ∙ ap (λ (q : List ℕ). whole kind q (entries_from d 0 [])) (sym restarts_head) ∙ sym formed_is
      where
        one : (e : Entry) (o : Option (List Entry)) → judged kind (restart_at s end 0 ∷ drop 1 rs) (o >>= (λ es. some (e ∷ es))) ≡ whole kind (restart_at s end 0 ∷ drop 1 rs) (o >>= (λ es. some (e ∷ es)))
        one e none = refl
        one e (some es) = rw (eq-eqb (restart_at s end 0) 0 z, enough_one kind (as_pair e) (pairs_of es)) (sym (and_comm (restarts_stand (restart_at s end 0 ∷ drop 1 rs) (e ∷ es)) (all (entry_fits kind) (pairs_of (e ∷ es)))))

        go : (o : Option Entry) → entry 0 [] (drop 0 d) ≡ o → judged kind (restart_at s end 0 ∷ drop 1 rs) (entries_from d 0 []) ≡ whole kind (restart_at s end 0 ∷ drop 1 rs) (entries_from d 0 [])
        go none r = let f = from_none d 0 [] (omega (arith, size)) r in rw f
        go (some e) r = let f = from_some d 0 [] (omega (arith, size)) r in rw f (one e (entries_from d (next e) e.key))

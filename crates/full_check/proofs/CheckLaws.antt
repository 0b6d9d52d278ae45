-- The whole check, by the outcome of each step, as code takes them.
use Prim.Native.Nat.{ℕ}
use mathlib.Core.Path.{◌≡◌, refl, sym, ap, ◌∙◌}
use mathlib.Core.Bool.{Bool, true, false, ◌&&◌, not}
use mathlib.Core.List.{List, [], ◌∷◌}
use mathlib.Core.Option.{Option, none, some}
use Rattle.std.specs.Prelude.{Ok, Err}
use Rattle.codec.specs.Varint.{Handle}
use Rattle.keys.specs.Order.{user_of, below}
use Rattle.block_reader.specs.declared.block.Kind.TheVariants as KindCase
use Rattle.blocks.specs.Block.{Pair, Entry, last_key_of, pairs_of}
use Rattle.blocks.specs.Formed.{index_block, meta_block, all, rises}
use Rattle.block_reader.specs.Said.{kind_of}
use Rattle.filters.specs.Filter.{hash}
use Rattle.filters.specs.FilterBlock.{filter_formed, may_match}
use Rattle.table_block.specs.declared.footer.Footer as Declared
use Rattle.table_block.specs.declared.refusal.Refusal.{Refusal}
use Rattle.table_block.specs.Answers.{footer_answer}
use Rattle.table.specs.Checked.{Checked, pass, refuse, ◌>>=◌, ask}
use Rattle.table.specs.Table.{placed, Footer, footer, contents, sealed, block_of, sorted_at, bloom_handle, filter_of, may_hold, opened, Edge, first_follows, handle_of, data_block_of, data_blocks_of, full_check}
use Rattle.table_block.proofs.RefusalLaws.{ok_is, err_is, ok_not_err, err_not_ok}
use Rattle.table_block.specs.Refusals.{refusal}
use Rattle.full_check.specs.Answers.{verdict_of}
use Rattle.full_check.specs.Steps.{ordered, filter_bytes, lets, stands, data_in, data_at, blocks_at, with_filter, after_footer}
use Rattle.full_check.proofs.BlockLaws.{then_refused}

-- ---- tests after tests

module _ {A B : Type 0} where
  then_same : (m : Checked A) {f g : A → Checked B} → ((a : A) → f a ≡ g a) → m >>= f ≡ m >>= g
  then_same m h = λ i. m >>= (λ a. h a i)

then_then : {A B C : Type 0} (m : Checked A) (f : A → Checked B) (g : B → Checked C) → (m >>= f) >>= g ≡ m >>= (λ a. f a >>= g)
unfolding ◌>>=◌
then_then (pass a) f g = refl
then_then (refuse n) f g = refl

-- ---- a filter by its bytes

holds_as : (f : Option (List ℕ)) (offset : ℕ) (w : List ℕ) → may_hold f offset w ≡ may_match (filter_bytes f) offset (hash w)
unfolding may_hold may_match filter_bytes
holds_as none offset w = refl
holds_as (some s) offset w = refl

-- the three tests of 11 are one
tests : {A : Type 0} (a b c d : Bool) (x : A)
    → ask 11 a >>= (λ _. ask 11 b >>= (λ _. ask 11 c >>= (λ _. ask 12 d >>= (λ _. pass x))))
    ≡ ask 11 (a && (b && c)) >>= (λ _. ask 12 d >>= (λ _. pass x))
unfolding ◌>>=◌ ask
tests true true true d x = refl
tests true true false d x = refl
tests true false c d x = refl
tests false b c d x = refl

module _ (t : List ℕ) (f : Option (List ℕ)) where
  data_same : (before : Option Edge) (ix : Pair) → data_block_of t f before ix ≡ data_at t (filter_bytes f) before ix.key (handle_of ix.value)
  unfolding data_block_of data_at data_in block_of ordered lets
  data_same before ix =
      let h = handle_of ix.value in
      then_same (placed t h) (λ _.
      then_same (sealed t h) (λ _.
      then_same (block_of t h _) (λ es.
      let ps = pairs_of es in
      tests (first_follows before ps) (rises below ps) (not (below ix.key (last_key_of [] ps))) (all (λ (p : Pair). may_hold f h.offset (user_of p.key)) ps) ps
      ∙ (λ i. ask 11 (first_follows before ps && (rises below ps && not (below ix.key (last_key_of [] ps)))) >>= (λ _. ask 12 (all (λ (p : Pair). holds_as f h.offset (user_of p.key) i) ps) >>= (λ _. pass ps))))))

  blocks_same : (before : Option Edge) (ixs : List Pair) → data_blocks_of t f before ixs ≡ blocks_at t (filter_bytes f) before ixs
  unfolding data_blocks_of blocks_at
  blocks_same before [] = refl
  blocks_same before (ix ∷ ixs) =
      ap (λ (m : Checked (List Pair)). m >>= (λ ps. data_blocks_of t f (some (record { index_key = ix.key; last_key = last_key_of [] ps })) ixs)) (data_same before ix)
      ∙ then_same (data_at t (filter_bytes f) before ix.key (handle_of ix.value)) (λ ps. blocks_same (some (record { index_key = ix.key; last_key = last_key_of [] ps })) ixs)

-- ---- the filter block

module _ (t : List ℕ) (ixs : List Pair) where
  filter_by : (h : Handle) → with_filter t (some h) ixs ≡ stands t h >>= (λ _. ask 12 (filter_formed (contents t h)) >>= (λ _. data_blocks_of t (some (contents t h)) none ixs))
  unfolding with_filter filter_of stands ◌>>=◌
  filter_by h = go (placed t h) (sealed t h) (ask 12 (filter_formed (contents t h)))
    where
      go : (a b c : Checked (Unit {0}))
          → (a >>= (λ _. b >>= (λ _. c >>= (λ _. pass (some (contents t h)))))) >>= (λ f. data_blocks_of t f none ixs)
          ≡ (a >>= (λ _. b)) >>= (λ _. c >>= (λ _. data_blocks_of t (some (contents t h)) none ixs))
      go (pass u) (pass v) (pass w) = refl
      go (pass u) (pass v) (refuse n) = refl
      go (pass u) (refuse n) c = refl
      go (refuse n) b c = refl

  pub no_filter : with_filter t none ixs ≡ blocks_at t [] none ixs
  unfolding with_filter filter_of filter_bytes ◌>>=◌
  no_filter = blocks_same t none none ixs

  module _ (h : Handle) where
    pub filter_outside : {n : ℕ} → stands t h ≡ refuse n → with_filter t (some h) ixs ≡ refuse n
    filter_outside e = filter_by h ∙ then_refused _ e

    module _ (e : stands t h ≡ pass tt) where
      pub filter_malformed : {s : List ℕ} → s ≡ contents t h → filter_formed s ≡ false → with_filter t (some h) ixs ≡ refuse 12
      unfolding ask ◌>>=◌
      filter_malformed same f = filter_by h ∙ rw (e, ← same, f)

      pub filter_stands : {s : List ℕ} → s ≡ contents t h → filter_formed s ≡ true → with_filter t (some h) ixs ≡ blocks_at t s none ixs
      unfolding ask ◌>>=◌ filter_bytes
      filter_stands {s} same f = filter_by h ∙ rw (e, ← same, f) (blocks_same t (some s) none ixs)

-- ---- metaindex and index

module _ (t : List ℕ) (m i : Handle) where
  pub meta_refused : {n : ℕ} → sorted_at (kind_of KindCase.Metaindex) t m ≡ refuse n → after_footer t m i ≡ refuse n
  unfolding after_footer kind_of
  meta_refused e = then_refused _ e

  module _ {ms : List Entry} (e : sorted_at (kind_of KindCase.Metaindex) t m ≡ pass ms) where
    pub index_refused : {n : ℕ} → sorted_at (kind_of KindCase.Index) t i ≡ refuse n → after_footer t m i ≡ refuse n
    unfolding after_footer ◌>>=◌ kind_of
    index_refused f = rw (e, f)

    pub both_sorted : {es : List Entry} → sorted_at (kind_of KindCase.Index) t i ≡ pass es → after_footer t m i ≡ with_filter t (bloom_handle (pairs_of ms)) (pairs_of es)
    unfolding after_footer ◌>>=◌ kind_of
    both_sorted f = rw (e, f)

-- ---- the footer

full_by : (t : List ℕ) → full_check t ≡ footer t >>= (λ ft. after_footer t ft.metaindex ft.index)
unfolding full_check opened after_footer with_filter ◌>>=◌
full_by t =
    then_then (footer t) _ _ ∙ then_same (footer t) (λ ft.
    then_then (sorted_at meta_block t ft.metaindex) _ _ ∙ then_same (sorted_at meta_block t ft.metaindex) (λ ms.
    then_then (sorted_at index_block t ft.index) _ _ ∙ then_same (sorted_at index_block t ft.index) (λ ixs.
    then_then (filter_of t (bloom_handle (pairs_of ms))) _ _)))

-- a refusal that is said of a footer is the footer's
answer_refused : (c : Checked Footer) {e : Refusal} → footer_answer c ≡ Err e → (n : ℕ) × (c ≡ refuse n) × (e ≡ refusal n)
unfolding footer_answer
answer_refused (pass f) p = ok_not_err p
answer_refused (refuse n) p = (n, refl, sym (err_is p))

answer_read : (c : Checked Footer) {f : Declared.Footer} → footer_answer c ≡ Ok f → c ≡ pass (record { metaindex = f.metaindex; index = f.index })
unfolding footer_answer
answer_read (pass f) p = let e = ok_is p in rw (← e)
answer_read (refuse n) p = err_not_ok p

module _ (t : List ℕ) where
  pub footer_refused : {e : Refusal} → footer_answer (footer t) ≡ Err e → Err e ≡ verdict_of (full_check t)
  unfolding ◌>>=◌ verdict_of
  footer_refused e =
      let r = answer_refused (footer t) e in
      ap Err r.2 ∙ sym (ap verdict_of (full_by t ∙ ap (λ (c : Checked Footer). c >>= (λ ft. after_footer t ft.metaindex ft.index)) r.1))

  module _ {f : Declared.Footer} (e : footer_answer (footer t) ≡ Ok f) where
    pub footer_read : after_footer t f.metaindex f.index ≡ full_check t
    unfolding ◌>>=◌
    footer_read = sym (full_by t ∙ rw (answer_read (footer t) e))

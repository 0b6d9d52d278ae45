-- Where the index says a block is.
use Prim.Native.Nat.{ℕ}
use mathlib.Core.Path.{◌≡◌, refl, sym, ◌∙◌, ap, ap₂, subst}
use mathlib.Core.List.{List, Memᴰ}
use mathlib.Core.Bool.{true, false}
use mathlib.Core.Option.{Option, none, some}
use lib.ListN.{length}
use Rattle.codec.specs.Answers.{given}
use Rattle.codec.specs.Bytes.{part}
use Rattle.codec.specs.Varint.{Handle, one_handle}
use Rattle.codec.proofs.GivenLaws.{said}
use Rattle.codec.proofs.Lists.{all_mem}
use Rattle.codec.proofs.Prelude.{test}
use Rattle.block_reader.specs.declared.block.BlockError.TheVariants as BlockCase
use Rattle.blocks.specs.Block.{Entry}
use Rattle.blocks.specs.Search.{in_order}
use Rattle.block_reader.specs.Said.{Found, found_answer, Said}
use Rattle.table.specs.Table.{ends_before, contents, handle_of, entries_at}
use Rattle.table.specs.Promise.{Passed}
use Rattle.table.specs.Reads.{Answer, listed}
use Rattle.std.specs.Prelude.{Ok, Err, None, Some}
use Rattle.table_block.specs.declared.refusal.Refusal.{Refusal}
use Rattle.table_block.specs.declared.refusal.Refusal.TheVariants as Why
use Rattle.reader.specs.declared.table_reader.Located.{Located}
use Rattle.reader.specs.Parts.{Indexed, by_handle, Locating, one_located, located_of, block_at, Listed, Sound, Sees, say_at, Says}
use Rattle.reader.proofs.PassedLaws.{BlockReads, Opens, passed_opens}
use Rattle.reader.proofs.HitLaws.{Picks, readable_tells, room}

-- ---- as code finds it

module _ (len start : ℕ) (s : List ℕ) where
  pub not_located : given (one_handle s) ≡ None → Err Why.Malformed ≡ by_handle len start (one_handle s)
  unfolding by_handle
  not_located e = rw (said (one_handle s) e)

  module _ {h : Handle} (e : given (one_handle s) ≡ Some h) where
    pub located : ends_before len h.offset h.size ≡ true → Ok (record { start = start; handle = h }) ≡ by_handle len start (one_handle s)
    unfolding by_handle
    located p = rw (said (one_handle s) e, by_handle, p)

    pub located_out : ends_before len h.offset h.size ≡ false → Err Why.Outside ≡ by_handle len start (one_handle s)
    unfolding by_handle
    located_out p = rw (said (one_handle s) e, by_handle, p)

-- ---- what it can come to

handle_sound : (len start : ℕ) (o : Option Handle) → Sound len (one_located (by_handle len start o))
unfolding by_handle listed
handle_sound len start none = λ t. tt
handle_sound len start (some h) =
    test (ends_before len h.offset h.size)
    (λ e. rw (e, by_handle) e)
    (λ e. rw (e, by_handle) (λ t. tt))

located_sound : (len : ℕ) (s : List ℕ) (absent : Refusal) (f : Found) → Listed absent → Sound len (located_of len s absent f)
unfolding located_of listed
located_sound len s absent (Ok (Some e)) h = handle_sound len e.start (one_handle (part s e.value_at e.value_len))
located_sound len s absent (Ok None) h = tt
located_sound len s absent (Err BlockCase.NoPlace) h = h
located_sound len s absent (Err BlockCase.Bad) h = λ t. tt

-- ---- of a passed table

module _ (t : List ℕ) {h : Handle} (o : Opens t h) (absent : Refusal) where
  located_is : {says : List Entry → Option (Option Entry)} {k : List ℕ} {f : Found} {k' : List ℕ} → Picks says
      → Said (contents t h) says in_order k f k' → length k ≡ 1032
      → located_of (length t) (contents t h) absent f ≡ block_at absent (says o.table.index)
  unfolding located_of found_answer by_handle block_at
  located_is {says} {k} picks s long = rw (s.answer ixs o.reads o.order) (go (says ixs) refl)
    where
      ixs : List Entry
      ixs = o.table.index

      go : (m : Option (Option Entry)) → says ixs ≡ m → located_of (length t) (contents t h) absent (found_answer (length k) m) ≡ block_at absent m
      go none e = refl
      go (some none) e = refl
      go (some (some ix)) e =
          let m = picks ixs ix e in
          let all = readable_tells (contents t h) o.reads in
          let v = all_mem all.values m in
          let b = all_mem o.blocks m in
          rw (room k ix long (all_mem all.short m), found_answer, ← v.is, b.one, by_handle, b.placed) refl

  -- what is said of the block of an index entry
  pub block_said : (ix : Entry) → Memᴰ ix o.table.index → {b : Located} → Ok (Some b) ≡ block_at absent (some (some ix)) → (says : List Entry → Option (Option Entry)) {a : Answer}
      → Says t b.start b.handle says a → a ≡ say_at ix.start (handle_of ix.value).offset (says (entries_at t (handle_of ix.value)))
  unfolding block_at contents
  block_said ix m {b} z says told =
      let block = handle_of ix.value in
      let es = entries_at t block in
      let r : BlockReads t ix = all_mem o.blocks m in
      let b_is : b ≡ record { start = ix.start; handle = block } = cc in
      let x : b.start ≡ ix.start = ap (λ (y : Located). y.start) b_is in
      let y : b.handle ≡ block = ap (λ (y : Located). y.handle) b_is in
      told es (rw y r.reads) r.order ∙ ap₂ (λ (c : ℕ) (d : Handle). say_at c d.offset (says es)) x y

-- ---- a reading of the index

pub index_sees : (t : List ℕ) {h : Handle} → Indexed t h → {absent : Refusal} → Listed absent → {says : List Entry → Option (Option Entry)} {s k : List ℕ} {f : Found} {k' : List ℕ} {r : Locating}
    → Picks says → s ≡ part t h.offset h.size → Said s says in_order k f k' → length k ≡ 1032 → r ≡ located_of (length t) s absent f → Sees t h absent says r
unfolding contents
index_sees t i {absent} fair {says} {s} {k} {f} picks e read long is =
    record {
      passed = λ p.
          let o = passed_opens t i p in
          is ∙ ap (λ (x : List ℕ). located_of (length t) x absent f) e ∙ located_is t o absent picks (rw e at read) long ∙ ap (λ (l : List Entry). block_at absent (says l)) (sym o.same);
      sound = rw is (located_sound (length t) s absent f fair);
    }

module _ {t : List ℕ} {h : Handle} {absent : Refusal} {says : List Entry → Option (Option Entry)} {r : Locating} (ir : Sees t h absent says r) where
  pub sees_placed : {b : Located} → r ≡ Ok (Some b) → ends_before (length t) b.handle.offset b.handle.size ≡ true
  sees_placed e = subst (Sound (length t)) e ir.sound

  pub sees_listed : {why : Refusal} → r ≡ Err why → Listed why
  sees_listed e = subst (Sound (length t)) e ir.sound

  pub sees_said : (o : Opens t h) → Passed t → {m : Option (Option Entry)} → says o.table.index ≡ m → r ≡ block_at absent m
  sees_said o p e = ir.passed p ∙ ap (block_at absent) (ap says o.same ∙ e)

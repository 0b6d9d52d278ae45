-- The first entry of the blocks after a place of the index.
use Prim.Native.Nat.{ℕ, ◌<◌}
use mathlib.Core.Path.{◌≡◌, refl, sym, ◌∙◌, ap}
use mathlib.Core.List.Memᴰ
use mathlib.Core.List.{List, [], ◌∷◌, ◌++◌, map, head?}
use mathlib.Core.Option.{Option, none, some}
use native.Mathlib.Omega.{arith}
use lib.Dec.{T}
use borrow.Author.Tests.{eq-eqb}
use Rattle.codec.proofs.Prelude.{apart}
use Rattle.codec.specs.Varint.{Handle}
use Rattle.codec.proofs.Lists.{Pairs, all_mem}
use Rattle.block_reader.specs.declared.block.Which.{Which}
use Rattle.block_reader.specs.declared.block.Which.TheVariants as WhichCase
use Rattle.blocks.specs.Block.{Entry, pairs_of}
use Rattle.blocks.specs.Formed.{data_block, enough}
use Rattle.blocks.specs.Search.{first_in}
use Rattle.block_reader.specs.Said.{pick, place_in, next_in}
use Rattle.blocks.proofs.ReadLaws.{StartsBefore}
use Rattle.block_reader.proofs.SeekLaws.{place_past}
use Rattle.table.specs.Table.{contents, handle_of, entries_at, found_in, founds_of, read_blocks}
use Rattle.table.specs.Promise.{Passed}
use Rattle.table.specs.Reads.{Answer, nothing, found_or}
use Rattle.table.proofs.StandLaws.{Laid}
use Rattle.std.specs.Prelude.{Ok, Err, None, Some}
use Rattle.table_block.specs.declared.refusal.Refusal.{Refusal}
use Rattle.table_block.proofs.RefusalLaws.{err_not_ok}
use Rattle.reader.specs.declared.table_reader.Located.{Located}
use Rattle.reader.specs.Answers.{Sought, sought_of}
use Rattle.reader.specs.Parts.{Indexed, Locating, block_at, Sees, say_at, Says, Tells, Split, IsLater, or_then, OrLater}
use Rattle.reader.proofs.AnswerLaws.{tells_refused, tells_none, tells_with}
use Rattle.reader.proofs.PassedLaws.{Opens, passed_opens}
use Rattle.reader.proofs.HitLaws.{readable_tells}
use Rattle.reader.proofs.LocateLaws.{sees_listed, block_said}

-- ---- what is said of a place

module _ (which : Which) where
  place_found : (at : ℕ) (bs : List Entry) (e : Entry) (cs : List Entry) → Pairs StartsBefore (bs ++ (e ∷ cs)) → e.start ≡ at → place_in which at (bs ++ (e ∷ cs)) ≡ some (pick which e cs)
  unfolding place_in
  place_found at [] e cs p h = rw (eq-eqb e.start at h, place_in)
  place_found at (b ∷ bs) e cs (Pairs.cons q qs) h =
      let before : b.start < e.start = all_mem q (Memᴰ.append_right bs (Memᴰ.head refl)) in
      place_past which at b (bs ++ (e ∷ cs)) (λ g. omega arith) ∙ place_found at bs e cs qs h

  pub place_split : {at : ℕ} {es : List Entry} → Pairs StartsBefore es → (s : Split es at) → place_in which at es ≡ some (pick which s.here s.after)
  place_split {at} p s = ap (place_in which at) s.whole ∙ place_found at s.before s.here s.after (rw s.whole at p) s.at

-- an index's entries start one after the other
pub index_starts : {t : List ℕ} {h : Handle} (o : Opens t h) → Pairs StartsBefore o.table.index
index_starts {t} {h} o = (readable_tells (contents t h) o.reads).starts

-- ---- the block after

pub laid_from : {t : List ℕ} {f : Option (List ℕ)} (bs : List Entry) {cs : List Entry} → Laid t f (bs ++ cs) → Laid t f cs
laid_from [] l = l
laid_from (b ∷ bs) (Laid.cons s l) = laid_from bs l

-- a block is not empty: its first entry is the first of all from it on
first_of_next : (t : List ℕ) {f : Option (List ℕ)} (ix nx : Entry) (cs : List Entry) → Laid t f (ix ∷ (nx ∷ cs))
    → say_at nx.start (handle_of nx.value).offset (first_in (entries_at t (handle_of nx.value))) ≡ found_or (head? (read_blocks t (nx ∷ cs)))
unfolding read_blocks founds_of enough found_or say_at first_in
first_of_next t ix nx cs (Laid.cons _ (Laid.cons s l)) = go (entries_at t (handle_of nx.value)) s.some
  where
    go : (es : List Entry) → T (enough data_block (pairs_of es)) → say_at nx.start (handle_of nx.value).offset (first_in es) ≡ found_or (head? (map (found_in nx) es ++ read_blocks t cs))
    go (e ∷ es) u = refl
    go [] u = elim u [ ]

module _ (t : List ℕ) {h : Handle} (i : Indexed t h) (start : ℕ) where
  module _ {absent : Refusal} {r : Locating} (ir : Sees t h absent (next_in start) r) where
    -- of a passed table: the block of the index entry after a place
    located_next : (p : Passed t) (s : Split (entries_at t h) start) → r ≡ block_at absent (some (head? s.after))
    unfolding pick
    located_next p s = let o = passed_opens t i p in ir.passed p ∙ ap (block_at absent) (place_split WhichCase.After (rw o.same (index_starts o)) s)

    pub later_refused : {why : Refusal} {b : List ℕ} → r ≡ Err why → Tells sought_of t (IsLater t h start) (Err why) b
    unfolding block_at
    later_refused {why} e = tells_refused t (IsLater t h start) (sees_listed ir e) (λ p s. absurd (go (head? s.after) (sym e ∙ located_next p s)))
      where
        go : (m : Option Entry) → Err why ≡ block_at absent (some m) → ⊥
        go none e = err_not_ok e
        go (some x) e = err_not_ok e

    pub later_none : {b : List ℕ} → r ≡ Ok None → Tells sought_of t (IsLater t h start) (Ok None) b
    unfolding block_at found_or read_blocks
    later_none e = tells_none t (IsLater t h start) (λ p s. go s.after (sym e ∙ located_next p s))
      where
        go : (cs : List Entry) → Ok None ≡ block_at absent (some (head? cs)) → nothing ≡ found_or (head? (read_blocks t cs))
        go [] e = refl
        go (c ∷ cs) e = cc

    pub later_first : {b : Located} {q : Sought} {k : List ℕ} → r ≡ Ok (Some b) → Tells sought_of t (Says t b.start b.handle first_in) q k → Tells sought_of t (IsLater t h start) q k
    unfolding block_at
    later_first {b} e = tells_with (λ a said p s. go a said p s s.after refl)
      where
        go : (a : Answer) → Says t b.start b.handle first_in a → (p : Passed t) (s : Split (entries_at t h) start) (cs : List Entry) → s.after ≡ cs → a ≡ found_or (head? (read_blocks t cs))
        go a said p s [] after_is =
            let z : Ok (Some b) ≡ block_at absent (some none) = sym e ∙ located_next p s ∙ ap (λ (x : List Entry). block_at absent (some (head? x))) after_is in
            apart cc
        go a said p s (nx ∷ cs) after_is =
            let o = passed_opens t i p in
            let whole : o.table.index ≡ s.before ++ (s.here ∷ (nx ∷ cs)) = sym o.same ∙ s.whole ∙ ap (λ (x : List Entry). s.before ++ (s.here ∷ x)) after_is in
            let z : Ok (Some b) ≡ block_at absent (some (some nx)) = sym e ∙ located_next p s ∙ ap (λ (x : List Entry). block_at absent (some (head? x))) after_is in
            block_said t o absent nx (rw whole (Memᴰ.append_right s.before (Memᴰ.tail (Memᴰ.head refl)))) z first_in said
            ∙ first_of_next t s.here nx cs (laid_from s.before (rw whole at o.laid))

-- an answer of the block that the index names, or where it is none the first entry of the blocks after
pub or_later : (t : List ℕ) {h : Handle} (o : Opens t h) (absent : Refusal) {place : ℕ} (s : Split o.table.index place) {block : Located} → Ok (Some block) ≡ block_at absent (some (some s.here))
    → (says : List Entry → Option (Option Entry)) {a b : Answer} → Says t block.start block.handle says a → OrLater t h block.start a b → Passed t
    → b ≡ or_then (say_at s.here.start (handle_of s.here.value).offset (says (entries_at t (handle_of s.here.value)))) (found_or (head? (read_blocks t s.after)))
unfolding block_at
or_later t o absent s {block} z says said later p =
    let block_is : block ≡ record { start = s.here.start; handle = handle_of s.here.value } = cc in
    let x : block.start ≡ s.here.start = ap (λ (y : Located). y.start) block_is in
    later p (record { before = s.before; here = s.here; after = s.after; whole = o.same ∙ s.whole; at = sym x })
    ∙ ap (λ (c : Answer). or_then c (found_or (head? (read_blocks t s.after)))) (block_said t o absent s.here (rw s.whole (Memᴰ.append_right s.before (Memᴰ.head refl))) z says said)

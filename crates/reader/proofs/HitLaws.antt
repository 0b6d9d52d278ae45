-- What is found in one block, as an answer about the table.
use Prim.Native.Nat.{ℕ, ◌+◌, ◌-◌, ◌≤◌, ◌<◌, ◌^◌}
use mathlib.Core.Path.{◌≡◌, refl, sym, ◌∙◌, ap}
use mathlib.Core.List.{List, [], ◌∷◌, head?, Memᴰ}
use mathlib.Core.Bool.{Bool, true}
use mathlib.Core.Option.{Option, none, some, some_inj, none-ne-some}
use native.Mathlib.Omega.{arith}
use lib.Dec.{T, eqb, leb, leb→le, le→leb}
use lib.ListN.{length, take}
use lib.Seq.{length-take-le}
use borrow.Author.Tests.{le-leb}
use Rattle.codec.specs.Bytes.{part}
use Rattle.codec.specs.Maybe.{first}
use Rattle.codec.specs.Varint.{Handle}
use Rattle.codec.proofs.BytesLaws.{part_length, part_most}
use Rattle.codec.proofs.Lists.{All, Pairs, all_mem, first_yes, first_no}
use Rattle.codec.proofs.MaybeLaws.{getting, giving}
use Rattle.codec.proofs.Prelude.{test, and_i, true_is, false_is}
use Rattle.codec.proofs.PutLaws.{put_start}
use Rattle.std.specs.Prelude.{Ok, Err, None, Some}
use Rattle.block_reader.specs.declared.block.BlockError.TheVariants as BlockCase
use Rattle.block_reader.specs.declared.block.Which.{Which}
use Rattle.block_reader.specs.declared.block.Which.TheVariants as WhichCase
use Rattle.blocks.specs.Block.{Pair, Entry}
use Rattle.blocks.specs.Search.{readable, reaches, seek_in, first_in, in_order, any_order}
use Rattle.block_reader.specs.Said.{pick, place_in, Found, found_answer, key_left, buffer_left, Said}
use Rattle.blocks.proofs.ReadLaws.{StartsBefore, block_starts, ValueIn, block_values}
use Rattle.table.specs.Table.{ends_before, contents}
use Rattle.table.specs.Reads.{Answer, refused, nothing, found, listed}
use Rattle.table.proofs.PlaceLaws.{value_stands}
use Rattle.table.proofs.StandLaws.{all_entries}
use Rattle.reader.specs.declared.table_reader.Ask.{Ask}
use Rattle.reader.specs.declared.table_reader.Ask.TheVariants as AskCase
use Rattle.reader.specs.Answers.{entry_of, Sought, sought_of}
use Rattle.reader.specs.Parts.{asked, Inside, hit_of, say_at, Says, Tells}
use Rattle.reader.proofs.PassedLaws.{placed_within}

-- ---- what is said of entries is of one of them

abbrev pub Picks : (List Entry → Option (Option Entry)) → Type 0
Picks says = (es : List Entry) (e : Entry) → says es ≡ some (some e) → Memᴰ e es

some_in : {A : Type 0} {x y : A} → some x ≡ some y → x ≡ y
some_in e = some_inj.0 e

first_mem : {A : Type 0} (f : A → Bool) (xs : List A) (x : A) → first f xs ≡ some x → Memᴰ x xs
unfolding first
first_mem f [] x e = absurd (none-ne-some x e)
first_mem f (y ∷ ys) x e =
    test (f y)
    (λ t. Memᴰ.head (some_in (sym e ∙ first_yes f y ys (true_is t))))
    (λ t. Memᴰ.tail (first_mem f ys x (sym (first_no f y ys (false_is t)) ∙ e)))

head_mem : {A : Type 0} (ys : List A) {x : A} → head? ys ≡ some x → Memᴰ x ys
head_mem [] h = absurd (none-ne-some _ h)
head_mem (y ∷ ys) h = Memᴰ.head (some_in (sym h))

picked : (which : Which) (x : Entry) (xs : List Entry) {e : Entry} → pick which x xs ≡ some e → Memᴰ e (x ∷ xs)
unfolding pick
picked WhichCase.Here x xs h = Memᴰ.head (some_in (sym h))
picked WhichCase.After x xs h = Memᴰ.tail (head_mem xs h)

picks_place : (which : Which) (at : ℕ) → Picks (place_in which at)
unfolding place_in
picks_place which at [] e h = absurd (none-ne-some (some e) h)
picks_place which at (x ∷ xs) e h =
    test (eqb x.start at)
    (λ t. picked which x xs (some_in (rw (t, place_in) at h)))
    (λ t. Memᴰ.tail (picks_place which at xs e (rw (t, place_in) at h)))

pub picks_asked : (ask : Ask) → Picks (asked ask)
unfolding first_in seek_in
picks_asked AskCase.First es e h = head_mem es (some_in h)
picks_asked (AskCase.Place at which) es e h = picks_place which at es e h
picks_asked (AskCase.Target word edition) es e h = first_mem (reaches (record { word = word.now; edition = edition })) es e (some_in h)

-- what is found in any order is found in order too
pub said_in_order : {s : List ℕ} {says : List Entry → Option (Option Entry)} {k : List ℕ} {f : Found} {k' : List ℕ} → Said s says any_order k f k' → Said s says in_order k f k'
unfolding any_order
said_in_order d = record { answer = λ es read order. d.answer es read refl; buffer = λ es read order. d.buffer es read refl; inside = d.inside }

-- ---- the answer

-- by what was found, and the key at the front of the buffer
unfoldable answer_of : List ℕ → ℕ → ℕ → Found → List ℕ → Answer
answer_of t index offset (Ok (Some e)) b =
    found (record { index_start = index; start = e.start; key = take e.key_len b; value_at = offset + e.value_at; value = part t (offset + e.value_at) e.value_len })
answer_of t index offset (Ok None) b = nothing
answer_of t index offset (Err BlockCase.NoPlace) b = refused 14
answer_of t index offset (Err BlockCase.Bad) b = refused 10

module _ (t : List ℕ) (h : Handle) (index : ℕ) (placed : ends_before (length t) h.offset h.size ≡ true) where
  -- its numbers are those that the code gives, and its value lies in the table
  hit_tells : {says : List Entry → Option (Option Entry)} {k : List ℕ} {f : Found} {k' : List ℕ}
      → Said (contents t h) says in_order k f k' → length k' ≡ 1032 → Tells sought_of t (λ a. a ≡ answer_of t index h.offset f k') (hit_of index h.offset f) k'
  unfolding contents answer_of hit_of sought_of entry_of listed
  hit_tells {k = k} {f = f} {k' = k'} s long = go f s.inside
    where
      room : h.offset + h.size + 53 ≤ length t
      room = placed_within (length t) h.offset h.size placed

      go : (f : Found) → Rattle.block_reader.specs.Said.Inside (contents t h) k f k' → Tells sought_of t (λ a. a ≡ answer_of t index h.offset f k') (hit_of index h.offset f) k'
      go (Ok (Some e)) i =
          let most : length (contents t h) ≤ h.size = part_most t h.offset h.size in
          let here : h.offset + e.value_at + e.value_len ≤ length t = omega (arith, i.0, room) in
          let key_long : length (take e.key_len k') ≡ e.key_len = length-take-le e.key_len k' (omega (arith, i.1)) in
          let value_long : length (part t (h.offset + e.value_at) e.value_len) ≡ e.value_len = part_length t (h.offset + e.value_at) e.value_len here in
          let value_in : h.offset + e.value_at + length (part t (h.offset + e.value_at) e.value_len) ≤ length t = rw value_long here in
          let key_in : length (take e.key_len k') ≤ 1032 = rw key_long i.1 in
          record {
            answer = answer_of t index h.offset (Ok (Some e)) k';
            shown = rw (key_long, value_long) refl;
            holds = ap (λ (m : ℕ). take m k') key_long;
            inside = and_i (leb (h.offset + e.value_at + length (part t (h.offset + e.value_at) e.value_len)) (length t)) (leb (length (take e.key_len k')) 1032) (le→leb _ _ value_in) (le→leb _ _ key_in);
            is = refl;
          }
      go (Ok None) i = record { answer = nothing; shown = refl; holds = tt; inside = tt; is = refl }
      go (Err BlockCase.NoPlace) i = record { answer = refused 14; shown = refl; holds = tt; inside = tt; is = refl }
      go (Err BlockCase.Bad) i = record { answer = refused 10; shown = refl; holds = tt; inside = tt; is = refl }

pub record Readable (s : List ℕ) (es : List Entry) : Type 0 where
  pub values : All (ValueIn s) es
  pub short : All (λ (e : Entry). T (leb (length e.key) 1032)) es
  pub starts : Pairs StartsBefore es

pub readable_tells : (s : List ℕ) {es : List Entry} → readable s ≡ some es → Readable s es
unfolding readable
readable_tells s p =
    getting _ _ p λ b read p.
    giving _ _ p λ short p.
    let r : Readable s b.entries = record { values = block_values s read; short = all_entries (λ (p : Pair). leb (length p.key) 1032) b.entries short; starts = block_starts s read } in
    rw (some_in p) at r

-- a buffer of 1,032 bytes has room for each key
pub room : (k : List ℕ) (x : Entry) → length k ≡ 1032 → T (leb (length x.key) 1032) → leb (length x.key) (length k) ≡ true
room k x long t = le-leb (length x.key) (length k) (omega (arith, leb→le (length x.key) 1032 t))

module _ (t : List ℕ) (h : Handle) (index : ℕ) where
  hit_is : {says : List Entry → Option (Option Entry)} {k : List ℕ} {f : Found} {k' : List ℕ} → Picks says
      → Said (contents t h) says in_order k f k' → length k ≡ 1032 → (es : List Entry) → readable (contents t h) ≡ some es → in_order es ≡ true
      → answer_of t index h.offset f k' ≡ say_at index h.offset (says es)
  unfolding answer_of say_at found_answer buffer_left key_left
  hit_is {says} {k} {f} {k'} picks s long es read order =
      rw (s.answer es read order, s.buffer es read order) (go (says es) refl)
    where
      go : (o : Option (Option Entry)) → says es ≡ o → answer_of t index h.offset (found_answer (length k) o) (buffer_left k o) ≡ say_at index h.offset o
      go none e = refl
      go (some none) e = refl
      go (some (some x)) e =
          let r = readable_tells (contents t h) read in
          let m = picks es x e in
          rw (room k x long (all_mem r.short m), found_answer, put_start k x.key (length x.key) refl (omega (arith, long, leb→le (length x.key) 1032 (all_mem r.short m))), ← value_stands t h x (all_mem r.values m)) refl

-- what was found in the block, of a kind of search on it
pub hit_says : (t : List ℕ) (index : ℕ) (h : Handle) {says : List Entry → Option (Option Entry)} {s k : List ℕ} {f : Found} {k' : List ℕ} → Picks says
    → ends_before (length t) h.offset h.size ≡ true → s ≡ part t h.offset h.size → Said s says in_order k f k' → length k ≡ 1032 → length k' ≡ 1032 → {r : Sought} → r ≡ hit_of index h.offset f
    → Tells sought_of t (Says t index h says) r k'
unfolding contents
hit_says t index h {says} picks placed s_is said long long' is =
    let s = rw s_is at said in
    let w = hit_tells t h index placed s long' in
    record { answer = w.answer; shown = ◌∙◌ {c = sought_of w.answer} is w.shown; holds = w.holds; inside = w.inside; is = λ es read order. ◌∙◌ {c = say_at index h.offset (says es)} w.is (hit_is t h index picks s long es read order) }

-- ---- what the parts of a read ask for

pub said_inside : {s : List ℕ} {says : List Entry → Option (Option Entry)} {k k' : List ℕ} {n : ℕ} (f : Found) → Said s says in_order k f k' → length s ≤ n → Inside n f
said_inside (Ok (Some e)) w h = omega (arith, w.inside.0)
said_inside (Ok None) w h = tt
said_inside (Err e) w h = tt

-- a place in a block is one in the table, of 64 bits
pub block_fits : (t : List ℕ) (offset size : ℕ) {s : List ℕ} → s ≡ part t offset size → ends_before (length t) offset size ≡ true → length t < 2 ^ 64 → length s ≤ 2 ^ 64 - 1 - offset
block_fits t offset size e placed big = omega (arith, placed_within (length t) offset size placed, ap length e, part_most t offset size)

-- The third demand, of the calls' contracts alone: what a builder finishes, what a walk over it shows, and what a seek and a lookup answer.
use Rattle.std.specs.Prelude.{ℕ, ◌≤◌, ◌<◌, ◌≡◌, true, ◌↔◌, T, length, take, get_or, None, Some, Ok, Err}
use mathlib.Core.List.{List, [], ◌∷◌, ◌++◌, map, Memᴰ}
use Rattle.codec.specs.Bytes.{part}
use Rattle.keys.specs.Order.{Point, user_of, seq_of, kind_of}
use Rattle.table.specs.Options.{Addition}
use Rattle.table.specs.Build.{begin, accept_all}
use Rattle.table.specs.Runs.{Runs, room_of}
use Rattle.table.specs.Table.{plain, Found}
use Rattle.table.specs.Promise.{Passed, not_below, Least, Newest, addition_of}
use Rattle.table.specs.Reads.{point_fits}
use Rattle.table_block.specs.declared.refusal.Refusal as Why
use Rattle.builder.specs.declared.table_builder.Options as Given
use Rattle.builder.specs.declared.table_builder.Builder.{Builder}
use Rattle.builder.specs.State.{options_of}
use Rattle.builder.specs.Answers.{answer_of, Added, Finished, StartedIs, AddedIs, FinishedIs}
use Rattle.reader.specs.declared.table_reader.Entry.{Entry}
use Rattle.reader.specs.declared.table_reader.Found.TheVariants as FoundCase
use Rattle.reader.specs.Answers.{entry_of, Sought, Seeks, Looked, Looks}
use Rattle.reader.specs.Walk.{Visit, Walk, least_point}

-- ---- building

-- a start and then additions, each with the state and the runs that the call before left; and the additions that were accepted, in order
pub data Calls (o : Given.Options) : List Addition → Builder → Runs → Type 0 where
  start : {r r' : Runs} {s : Builder} → StartedIs o r r' (Ok s) → Calls o [] s r'
  accept : {xs : List Addition} {s : Builder} {r r' : Runs} {a : Addition} {x : Added} → Calls o xs s r → AddedIs s r r' a x → x.answer ≡ Ok tt
      → Calls o (xs ++ (a ∷ [])) x.state r'
  refuse : {xs : List Addition} {s : Builder} {r r' : Runs} {a : Addition} {x : Added} {e : Why.Refusal} → Calls o xs s r → AddedIs s r r' a x → x.answer ≡ Err e
      → Calls o xs x.state r'

-- one more addition is answered as the definitions say of all of them: accepted, or refused by its number
abbrev pub add_answers : Type 0
add_answers = (o : Given.Options) (xs : List Addition) (s : Builder) (r r' : Runs) (a : Addition) (x : Added) → Calls o xs s r → AddedIs s r r' a x
    → x.answer ≡ answer_of (accept_all (options_of o) (room_of (length r.out)) begin (xs ++ (a ∷ [])))

-- a finish after them, and the table that it leaves: the first bytes of the output
pub record Finishes (o : Given.Options) (xs : List Addition) (t : List ℕ) : Type 0 where
  pub state : Builder
  pub runs : Runs
  pub calls : Calls o xs state runs
  pub left : Runs
  pub said : Finished
  pub is : FinishedIs state runs left said
  pub size : ℕ
  pub answer : said.answer ≡ Ok size
  pub table : t ≡ take size left.out

-- a finish after such calls is never refused
abbrev pub finish_answers : Type 0
finish_answers = (o : Given.Options) (xs : List Addition) (s : Builder) (r r' : Runs) (x : Finished) → Calls o xs s r → FinishedIs s r r' x
    → (n : ℕ) × (x.answer ≡ Ok n)

-- every finished table passes, and reads plainly as exactly the additions that were accepted, in order
abbrev pub finished_reads : Type 0
finished_reads = (o : Given.Options) (xs : List Addition) (t : List ℕ) → Finishes o xs t → Passed t × (map addition_of (plain t) ≡ xs)

-- ---- walking over what was built

-- what a visit shows, as an addition: its key's parts, and its value, which lies in the table
unfoldable pub shown_by : List ℕ → Visit → Addition
shown_by t v =
    record {
      word = user_of v.key;
      edition = seq_of v.key;
      kind = kind_of v.key;
      value = part t v.entry.value_at v.entry.value_len;
    }

-- of every finished table, which has bytes: a walk by seek and step, from the least point on, shows exactly the additions that were accepted, in order, and
-- ends where there is none
abbrev pub walk_shows_additions : Type 0
walk_shows_additions = (o : Given.Options) (xs : List Addition) (t : List ℕ) → Finishes o xs t → ((i : ℕ) → get_or t i 0 < 256) → (k : List ℕ) → 1032 ≤ length k
    → (r : Sought) (k' : List ℕ) → Seeks t least_point k r k' → (vs : List Visit) (last : Sought) → Walk t r k' vs last
    → (map (shown_by t) vs ≡ xs) × (last ≡ Ok None)

-- ---- reading any table that passes

-- an entry of the plain reading as a call gives it: its place, its key at the front of the key buffer, and its value, which lies in the table
pub record Gives (t k : List ℕ) (e : Entry) (x : Found) : Type 0 where
  pub place : entry_of x ≡ e
  pub key : take e.key_len k ≡ x.key
  pub value : part t e.value_at e.value_len ≡ x.value

-- a seek finds the least entry not below the target, none exactly if there is none, and then the key buffer is as it was; it refuses nothing
pub record SeeksLeast (t : List ℕ) (p : Point) (k : List ℕ) (r : Sought) (k' : List ℕ) : Type 0 where
  pub none : (r ≡ Ok None) ↔ ((x : Found) → Memᴰ x (plain t) → T (not_below p x) → ⊥)
  pub kept : r ≡ Ok None → k' ≡ k
  pub entry : (e : Entry) → r ≡ Ok (Some e) → (x : Found) × Least t p x × Gives t k' e x
  pub answers : (why : Why.Refusal) → r ≡ Err why → ⊥

-- a lookup finds the word's newest entry no newer than the edition, a deletion as such, absent exactly if none stands there; it refuses nothing
pub record LooksNewest (t : List ℕ) (p : Point) (k : List ℕ) (r : Looked) (k' : List ℕ) : Type 0 where
  pub absent : (r ≡ Ok FoundCase.Absent) ↔ ((x : Found) → Memᴰ x (plain t) → user_of x.key ≡ p.word → seq_of x.key ≤ p.edition → ⊥)
  pub kept : r ≡ Ok FoundCase.Absent → k' ≡ k
  pub entry : (e : Entry) → r ≡ Ok (FoundCase.Entry e) → (x : Found) × Newest t p x × (kind_of x.key ≡ 0 → ⊥) × Gives t k' e x
  pub gone : (e : Entry) → r ≡ Ok (FoundCase.Deleted e) → (x : Found) × Newest t p x × (kind_of x.key ≡ 0) × Gives t k' e x
  pub answers : (why : Why.Refusal) → r ≡ Err why → ⊥

-- of every table that passes, a word of 1 to 1,024 bytes, an edition below 2 ^ 56 and a key buffer of 1,032 bytes or more
abbrev pub seek_finds_least : Type 0
seek_finds_least = (t : List ℕ) → Passed t → (p : Point) → point_fits p ≡ true → (k : List ℕ) → 1032 ≤ length k → (r : Sought) (k' : List ℕ) → Seeks t p k r k'
    → SeeksLeast t p k r k'

-- and a lookup likewise
abbrev pub lookup_finds_newest : Type 0
lookup_finds_newest = (t : List ℕ) → Passed t → (p : Point) → point_fits p ≡ true → (k : List ℕ) → 1032 ≤ length k → (r : Looked) (k' : List ℕ)
    → Looks t p k r k' → LooksNewest t p k r k'

-- ---- looking words up in what was built

-- the newest addition of a word that is no newer than an edition
pub record NewestOf (xs : List Addition) (p : Point) (a : Addition) : Type 0 where
  pub stands : Memᴰ a xs
  pub is_word : a.word ≡ p.word
  pub not_newer : a.edition ≤ p.edition
  pub newest : (b : Addition) → Memᴰ b xs → b.word ≡ p.word → b.edition ≤ p.edition → b.edition ≤ a.edition

-- an entry shows an addition: its value lies in the table, and its key is at the front of the key buffer
pub record Shows (t k : List ℕ) (e : Entry) (a : Addition) : Type 0 where
  pub value : part t e.value_at e.value_len ≡ a.value
  pub word : user_of (take e.key_len k) ≡ a.word
  pub edition : seq_of (take e.key_len k) ≡ a.edition
  pub kind : kind_of (take e.key_len k) ≡ a.kind

-- a lookup in a finished table: what the additions say
pub record LooksUp (t : List ℕ) (xs : List Addition) (p : Point) (k : List ℕ) (r : Looked) (k' : List ℕ) : Type 0 where
  pub absent : (r ≡ Ok FoundCase.Absent) ↔ ((a : Addition) → Memᴰ a xs → a.word ≡ p.word → a.edition ≤ p.edition → ⊥)
  pub kept : r ≡ Ok FoundCase.Absent → k' ≡ k
  pub entry : (e : Entry) → r ≡ Ok (FoundCase.Entry e) → (a : Addition) × NewestOf xs p a × (a.kind ≡ 0 → ⊥) × Shows t k' e a
  pub gone : (e : Entry) → r ≡ Ok (FoundCase.Deleted e) → (a : Addition) × NewestOf xs p a × (a.kind ≡ 0) × Shows t k' e a
  pub answers : (why : Why.Refusal) → r ≡ Err why → ⊥

-- of every finished table, a word of 1 to 1,024 bytes, an edition below 2 ^ 56 and a key buffer of 1,032 bytes or more
abbrev pub lookup_says_additions : Type 0
lookup_says_additions = (o : Given.Options) (xs : List Addition) (t : List ℕ) → Finishes o xs t → (p : Point) → point_fits p ≡ true → (k : List ℕ) → 1032 ≤ length k
    → (r : Looked) (k' : List ℕ) → Looks t p k r k' → LooksUp t xs p k r k'

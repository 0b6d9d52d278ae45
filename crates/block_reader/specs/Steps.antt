-- What the steps of reading a block answer: an entry's numbers, the layout, one entry of the check, and a reading from a place on.
use Rattle.std.specs.Prelude.{ℕ, suc, ◌⊎◌, ◌+◌, ◌*◌, ◌-◌, ◌≤◌, ◌<◌, ◌≡◌, List, [], ◌∷◌, Bool, true, false, ◌&&◌, leb, eqb, length, take, drop, Ok, Err, None, Some}
use Rattle.std.specs.Prelude as code
use Rattle.std.proofs.Math.Option.{Option, none, some}
use Rattle.codec.specs.Bytes.{part, number_of}
use Rattle.codec.specs.Maybe.{◌>>=◌, ask}
use Rattle.codec.specs.Put.{put}
use Rattle.keys.specs.Order.{Point, point_of, by_point, is_less}
use Rattle.block_reader.specs.declared.block.BlockError.TheVariants.{Bad}
use Rattle.block_reader.specs.declared.block.EntryRead.{EntryRead}
use Rattle.block_reader.specs.declared.block.Head as Declared
use Rattle.block_reader.specs.declared.block.Passed.{Passed}
use Rattle.block_reader.specs.declared.block.Rows as DeclaredRows
use Rattle.blocks.specs.Block.{Pair, Head, head, Entry, entry, next, pairs_of, entries_f, restarts_stand}
use Rattle.blocks.specs.Formed.{Kind, entry_fits, all}
use Rattle.blocks.specs.Search.{readable}
use Rattle.block_reader.specs.Said.{Found, found_answer, buffer_left, Inside}

-- ---- an entry

-- the numbers of an entry after a key of n bytes: it shares no more, and lies within the rest
unfoldable pub head_after : ℕ → List ℕ → Option Head
head_after n rest = do
  h ← head rest
  _ ← ask (leb h.shared n)
  _ ← ask (leb (h.size + h.fresh + h.value_size) (length rest))
  some h

-- the code's answer on an entry's head
unfoldable pub head_answer : Option Head → code.Option Declared.Head
head_answer none = None
head_answer (some h) = Some (record { shared = h.shared; fresh = h.fresh; value_size = h.value_size; size = h.size })

-- an entry that the code read at a place of d, behind a key, with the place of its value in d, and its key: that has at most 1,032 bytes
pub record Taken (d : List ℕ) (at : ℕ) (before : List ℕ) (e : EntryRead) (after : List ℕ) : Type 0 where
  pub here : Entry
  pub reads : entry at before (drop at d) ≡ some here
  pub shared : here.shared ≡ e.shared
  pub key : after ≡ here.key
  pub key_size : length here.key ≡ e.key_len
  pub value_at : here.value_at ≡ e.value_at
  pub value_size : length here.value ≡ e.value_len
  pub room : e.key_len ≤ 1032
  pub ends : next here ≡ e.value_at + e.value_len
  pub up : at < e.value_at + e.value_len
  pub within : e.value_at + e.value_len ≤ length d

-- no entry with such a key is there
abbrev pub Untaken : List ℕ → ℕ → List ℕ → Type 0
Untaken d at before = (e : Entry) → entry at before (drop at d) ≡ some e → length e.key ≤ 1032 → ⊥

-- the code's answer on the entry at a place of d, and the key then: that of the entry, or the key before
abbrev pub TakenAt : List ℕ → ℕ → List ℕ → code.Option EntryRead → List ℕ → Type 0
TakenAt d at before (Some e) key = Taken d at before e key
TakenAt d at before None key = Untaken d at before × (key ≡ before)

-- an entry at a place of d, read after no key: its key is a part of d
pub record Fresh (d : List ℕ) (at : ℕ) (key : List ℕ) : Type 0 where
  pub here : Entry
  pub reads : entry at [] (drop at d) ≡ some here
  pub is : here.key ≡ key

-- the code's answer on the key of an entry at a restart
abbrev pub FreshAt : List ℕ → ℕ → code.Option (List ℕ) → Type 0
FreshAt d at (Some key) = Fresh d at key
FreshAt d at None = entry at [] (drop at d) ≡ none

-- ---- the layout

-- where the restarts start, and how many there are
abbrev pub Rows : Type 0
Rows = DeclaredRows.Rows

-- the layout that a block's last bytes tell: one restart at least, and room for all of them
unfoldable pub rows_of : List ℕ → Option Rows
rows_of s = do
  _ ← ask (leb 4 (length s))
  let n = number_of (drop (length s - 4) s)
  _ ← ask (leb 1 n)
  _ ← ask (leb (4 * n + 4) (length s))
  some (record { end = length s - (4 * n + 4); count = n })

-- s has such a layout: a restart at least, and all of them and their count behind the entries
pub record Laid (s : List ℕ) (end count : ℕ) : Type 0 where
  pub some_restart : 1 ≤ count
  pub fits : end + 4 * count + 4 ≡ length s
  pub reads : rows_of s ≡ some (record { end = end; count = count })

-- restart j
unfoldable pub restart_at : List ℕ → ℕ → ℕ → ℕ
restart_at s end j = number_of (part s (end + 4 * j) 4)

-- ---- the check

-- all entries from a place on, after a key
unfoldable pub entries_from : List ℕ → ℕ → List ℕ → Option (List Entry)
entries_from d at before = entries_f (suc (length d)) d at before

-- the first of some restarts is a place
unfoldable pub marks : ℕ → List ℕ → Bool
marks at [] = false
marks at (r ∷ rs) = eqb r at

-- from a place on, after a key: entries fill d, each within the limits of its kind, and these restarts stand among them
unfoldable pub filled_from : Kind → List ℕ → ℕ → List ℕ → List ℕ → Bool
filled_from kind d at before rs =
    elim (entries_from d at before) [ none ↦ false | some es ↦ all (entry_fits kind) (pairs_of es) && restarts_stand rs es ]

-- after one entry the check goes on at a place, behind a key and with the restarts from number i on
pub record Onward (kind : Kind) (d rs : List ℕ) (at : ℕ) (before : List ℕ) (j next : ℕ) (key : List ℕ) (i : ℕ) : Type 0 where
  pub same : filled_from kind d at before (drop j rs) ≡ filled_from kind d next key (drop i rs)
  pub up : at < next
  pub within : next ≤ length d
  pub marks : i ≤ length rs

-- the code's answer on one entry of the check, and the key then
abbrev pub Passes : Kind → List ℕ → List ℕ → ℕ → List ℕ → ℕ → code.Option Passed → List ℕ → Type 0
Passes kind d rs at before j (Some p) key = Onward kind d rs at before j p.at key p.mark
Passes kind d rs at before j None key = filled_from kind d at before (drop j rs) ≡ false

-- ---- reading on

-- an entry found is handed over: its key goes to the front of the key buffer, where there is room
unfoldable pub hand_answer : List ℕ → List ℕ → ℕ → ℕ → ℕ → Found
hand_answer k key start at v =
    elim (leb (length key) (length k)) [ true ↦ Ok (Some (record { start = start; key_len = length key; value_at = at; value_len = v })) | false ↦ Err Bad ]

-- an entry handed over: the answer, and the key buffer
pub record Handed (k key : List ℕ) (start at v : ℕ) (r : Found) (k' : List ℕ) : Type 0 where
  pub said : r ≡ hand_answer k key start at v
  pub left : k' ≡ put k 0 key

-- the entries from a place on, after a key, where their keys have at most 1,032 bytes
unfoldable pub read_from : List ℕ → ℕ → List ℕ → Option (List Entry)
read_from d at before = do
  es ← entries_from d at before
  _ ← ask (all (λ (p : Pair). leb (length p.key) 1032) (pairs_of es))
  some es

-- reading d from a place on, after a key, with a key buffer k answers r and leaves k': what is said of the entries there
pub record Told (d : List ℕ) (at : ℕ) (before : List ℕ) (says : List Entry → Option (Option Entry)) (k : List ℕ) (r : Found) (k' : List ℕ) : Type 0 where
  pub answer : (es : List Entry) → read_from d at before ≡ some es → r ≡ found_answer (length k) (says es)
  pub buffer : (es : List Entry) → read_from d at before ≡ some es → k' ≡ buffer_left k (says es)
  pub inside : Inside d k r k'

-- the same is said of the entries from a place on, read after no key
pub record Skips (d : List ℕ) (says : List Entry → Option (Option Entry)) (es : List Entry) (at : ℕ) : Type 0 where
  pub rest : List Entry
  pub reads : read_from d at [] ≡ some rest
  pub same : says es ≡ says rest

-- so of every block s that can be read and whose entries are ordered so
pub record From (s d : List ℕ) (says : List Entry → Option (Option Entry)) (ordered : List Entry → Bool) (at : ℕ) : Type 0 where
  pub within : at ≤ length d
  pub skips : (es : List Entry) → readable s ≡ some es → ordered es ≡ true → Skips d says es at

-- ---- restarts

-- r is a restart behind the first, of which a test holds, or the first place
abbrev pub Chosen : List ℕ → ℕ → ℕ → (ℕ → Type 0) → ℕ → Type 0
Chosen s end count test r = (r ≡ 0) ⊎ ((j : ℕ) × (1 ≤ j) × (j < count) × (r ≡ restart_at s end j) × test r)

-- the entry at a place is below a target: it is read after no key
pub record BelowAt (d : List ℕ) (p : Point) (r : ℕ) : Type 0 where
  pub inside : r < length d
  pub here : Entry
  pub reads : entry r [] (drop r d) ≡ some here
  pub below : is_less (by_point (point_of here.key) p) ≡ true

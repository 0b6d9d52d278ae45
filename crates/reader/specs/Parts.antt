-- What the parts of a read answer: where the index says a block is, what is found in one block, and what a table tells with a key buffer of
-- the call's own.
use Rattle.std.specs.Prelude.{ℕ, ◌+◌, ◌≤◌, ◌≡◌, Bool, true, false, T, eqb, length, take, Result, Ok, Err, None, Some}
use Rattle.std.specs.Prelude as code
use mathlib.Core.List.{List, ◌∷◌, ◌++◌, head?}
use Rattle.std.proofs.Math.Option.{Option, none, some}
use Rattle.codec.specs.Bytes.{part, same_bytes}
use Rattle.codec.specs.Varint.{Handle, one_handle}
use Rattle.keys.specs.Order.{user_of, kind_of}
use Rattle.blocks.specs.Block.{Entry}
use Rattle.blocks.specs.Search.{readable, seek_in, first_in, in_order}
use Rattle.block_reader.specs.declared.block.BlockError.TheVariants as BlockCase
use Rattle.block_reader.specs.Said.{place_in, Found}
use Rattle.table_block.specs.declared.footer.Footer as Declared
use Rattle.table_block.specs.declared.refusal.Refusal.{Refusal}
use Rattle.table_block.specs.declared.refusal.Refusal.TheVariants as Why
use Rattle.table_block.specs.Refusals.{number, refusal}
use Rattle.table.specs.Checked.{pass, refuse}
use Rattle.table.specs.Table.{Footer, footer, ends_before, handle_of, may_hold, Opened, opened, entries_at, read_blocks}
use Rattle.table.specs.Promise.{Passed}
use Rattle.table.specs.Reads.{Answer, refused, nothing, found, deleted, found_or, by_kind, listed}
use Rattle.reader.specs.declared.table_reader.Ask.{Ask}
use Rattle.reader.specs.declared.table_reader.Ask.TheVariants as AskCase
use Rattle.reader.specs.declared.table_reader.Located.{Located}
use Rattle.reader.specs.Answers.{Sought}

-- what is asked of a block's entries
abbrev pub asked : Ask → List Entry → Option (Option Entry)
asked AskCase.First = first_in
asked (AskCase.Place at which) = place_in which at
asked (AskCase.Target word edition) = seek_in (record { word = word.now; edition = edition })

-- ---- the index

-- a footer was read: this one
pub record Footed (t : List ℕ) (f : Declared.Footer) : Type 0 where
  pub reads : footer t ≡ pass (record { metaindex = f.metaindex; index = f.index })

-- or it is refused
pub record Unread (t : List ℕ) (why : Refusal) : Type 0 where
  pub reason : ℕ
  pub reads : footer t ≡ refuse reason
  pub is : refusal reason ≡ why

-- a footer was read that says where the index is
pub record Indexed (t : List ℕ) (h : Handle) : Type 0 where
  pub foot : Footer
  pub reads : footer t ≡ pass foot
  pub index : foot.index ≡ h

-- and where the metaindex is
pub record Named (t : List ℕ) (h : Handle) : Type 0 where
  pub foot : Footer
  pub reads : footer t ≡ pass foot
  pub metaindex : foot.metaindex ≡ h

-- an entry that was found has its value within n bytes
abbrev pub Inside : ℕ → Found → Type 0
Inside n (Ok (Some e)) = e.value_at + e.value_len ≤ n
Inside n (Ok None) = Unit {0}
Inside n (Err e) = Unit {0}

-- what is found through the index: a block, none, or why it is refused
abbrev pub Locating : Type 0
Locating = Result (code.Option Located) Refusal

-- the block at a handle, in a table of len bytes
unfoldable pub by_handle : ℕ → ℕ → Option Handle → Result Located Refusal
by_handle len start none = Err Why.Malformed
by_handle len start (some h) =
    elim (ends_before len h.offset h.size) [
      | true ↦ Ok (record { start = start; handle = h })
      | false ↦ Err Why.Outside
    ]

-- as what is found through the index
abbrev pub one_located : Result Located Refusal → Locating
one_located (Ok b) = Ok (Some b)
one_located (Err e) = Err e

-- and by what was found in an index block, with what it is refused where no entry starts at the place
unfoldable pub located_of : ℕ → List ℕ → Refusal → Found → Locating
located_of len s absent (Ok (Some e)) = one_located (by_handle len e.start (one_handle (part s e.value_at e.value_len)))
located_of len s absent (Ok None) = Ok None
located_of len s absent (Err BlockCase.NoPlace) = Err absent
located_of len s absent (Err BlockCase.Bad) = Err Why.Malformed

-- the block of the index entry that is said
unfoldable pub block_at : Refusal → Option (Option Entry) → Locating
block_at absent none = Err absent
block_at absent (some none) = Ok None
block_at absent (some (some ix)) = Ok (Some (record { start = ix.start; handle = handle_of ix.value }))

-- a refusal is of the listed ones
abbrev pub Listed : Refusal → Type 0
Listed e = (t : List ℕ) → T (listed t (refused (number e)))

-- a block lies before the footer, and a refusal is of the listed ones
abbrev pub Sound : ℕ → Locating → Type 0
Sound len (Ok (Some b)) = ends_before len b.handle.offset b.handle.size ≡ true
Sound len (Ok None) = Unit {0}
Sound len (Err e) = Listed e

-- what is found through the index at a handle: of a passed table, what is said of its entries
pub record Sees (t : List ℕ) (h : Handle) (absent : Refusal) (says : List Entry → Option (Option Entry)) (r : Locating) : Type 0 where
  pub passed : Passed t → r ≡ block_at absent (says (entries_at t h))
  pub sound : Sound (length t) r

-- ---- a data block

-- what is said of a block's entries, as an answer about the table
unfoldable pub say_at : ℕ → ℕ → Option (Option Entry) → Answer
say_at index offset none = refused 14
say_at index offset (some none) = nothing
say_at index offset (some (some e)) =
    found (record { index_start = index; start = e.start; key = e.key; value_at = offset + e.value_at; value = e.value })

-- so of the block at a handle, where it can be read and its entries are in order
abbrev pub Says : List ℕ → ℕ → Handle → (List Entry → Option (Option Entry)) → Answer → Type 0
Says t index h says a = (es : List Entry) → readable (part t h.offset h.size) ≡ some es → in_order es ≡ true → a ≡ say_at index h.offset (says es)

-- what was found in the block at an offset, as an entry of the table
unfoldable pub hit_of : ℕ → ℕ → Found → Sought
hit_of index offset (Ok (Some e)) =
    Ok (Some (record { place = record { index = index; entry = e.start }; key_len = e.key_len; value_at = offset + e.value_at; value_len = e.value_len }))
hit_of index offset (Ok None) = Ok None
hit_of index offset (Err BlockCase.NoPlace) = Err Why.NoPlace
hit_of index offset (Err BlockCase.Bad) = Err Why.Malformed

-- ---- the table, with a key buffer of the call's own

-- a buffer has the key of an answer at its front
abbrev pub Holds : Answer → List ℕ → Type 0
Holds (refused n) b = Unit {0}
Holds nothing b = Unit {0}
Holds (found x) b = take (length x.key) b ≡ x.key
Holds (deleted x) b = take (length x.key) b ≡ x.key

-- an answer r, as it is shown, that lies in the table, has its key at the front of a buffer, and of which something is told
pub record Tells {R : Type 0} (show : Answer → R) (t : List ℕ) (told : Answer → Type 0) (r : R) (b : List ℕ) : Type 0 where
  pub answer : Answer
  pub shown : r ≡ show answer
  pub holds : Holds answer b
  pub inside : T (listed t answer)
  pub is : told answer

-- an index's entries, by the one that starts at a place
pub record Split (ixs : List Entry) (start : ℕ) : Type 0 where
  pub before : List Entry
  pub here : Entry
  pub after : List Entry
  pub whole : ixs ≡ before ++ (here ∷ after)
  pub at : here.start ≡ start

-- of a passed table: the first entry of all blocks after the one whose index entry starts at a place
abbrev pub IsLater : List ℕ → Handle → ℕ → Answer → Type 0
IsLater t h start a =
    Passed t → (s : Split (entries_at t h) start) → a ≡ found_or (head? (read_blocks t s.after))

-- of a passed table: an answer, or where it is none that entry
unfoldable pub or_then : Answer → Answer → Answer
or_then (refused n) b = refused n
or_then nothing b = b
or_then (found x) b = found x
or_then (deleted x) b = deleted x

-- and so of an answer a
abbrev pub OrLater : List ℕ → Handle → ℕ → Answer → Answer → Type 0
OrLater t h start a b =
    Passed t → (s : Split (entries_at t h) start) → b ≡ or_then a (found_or (head? (read_blocks t s.after)))

-- of a passed table: what it says
abbrev pub Is : List ℕ → Answer → Answer → Type 0
Is t says a = Passed t → a ≡ says

-- an entry's key has at most 1,032 bytes
abbrev pub Short : Sought → Type 0
Short (Ok (Some e)) = e.key_len ≤ 1032
Short (Ok None) = Unit {0}
Short (Err e) = Unit {0}

-- ---- a lookup

-- a refusal is of the listed ones
abbrev pub Fair : List ℕ → Result Bool Refusal → Type 0
Fair t (Ok b) = Unit {0}
Fair t (Err e) = T (listed t (refused (number e)))

-- whether the block at an offset may hold a word, by the filter: of a passed table what its filter says
pub record HeldIs (t : List ℕ) (offset : ℕ) (word : List ℕ) (r : Result Bool Refusal) : Type 0 where
  pub passed : Passed t → (o : Opened) → opened t ≡ pass o → r ≡ Ok (may_hold o.filter offset word)
  pub fair : Fair t r

-- an entry of a word, by its kind; none where it is of another
unfoldable pub of_word : List ℕ → Answer → Answer
of_word w (refused n) = refused n
of_word w nothing = nothing
of_word w (found x) = elim (same_bytes (user_of x.key) w) [ true ↦ by_kind (some x) | false ↦ nothing ]
of_word w (deleted x) = elim (same_bytes (user_of x.key) w) [ true ↦ by_kind (some x) | false ↦ nothing ]

-- an answer goes by its entry's kind
abbrev pub Kinded : Answer → Type 0
Kinded (refused n) = Unit {0}
Kinded nothing = Unit {0}
Kinded (found x) = eqb (kind_of x.key) 0 ≡ false
Kinded (deleted x) = eqb (kind_of x.key) 0 ≡ true

-- what a passed table says, by the kind
abbrev pub IsKinded : List ℕ → Answer → Answer → Type 0
IsKinded t says a = (Passed t → a ≡ says) × Kinded a

-- What reading a block answers and leaves in the key buffer: by meaning on blocks that can be read, and inside on any bytes.
use Rattle.std.specs.Prelude.{ℕ, ◌+◌, ◌≤◌, ◌≡◌, Bool, true, false, eqb, leb, length, Result, Ok, Err, None, Some}
use Rattle.std.specs.Prelude as code
use mathlib.Core.List.{List, [], ◌∷◌, head?}
use Rattle.std.proofs.Math.Option.{Option, none, some}
use Rattle.codec.specs.Put.{put}
use Rattle.block_reader.specs.declared.block.BlockError.{BlockError}
use Rattle.block_reader.specs.declared.block.BlockError.TheVariants.{NoPlace, Bad}
use Rattle.block_reader.specs.declared.block.Entry as Declared
use Rattle.block_reader.specs.declared.block.EntryRead.{EntryRead}
use Rattle.block_reader.specs.declared.block.Which.{Which}
use Rattle.block_reader.specs.declared.block.Which.TheVariants as WhichCase
use Rattle.block_reader.specs.declared.block.Kind as KindEnum
use Rattle.block_reader.specs.declared.block.Kind.TheVariants as KindCase
use Rattle.blocks.specs.Block.{Entry}
use Rattle.blocks.specs.Formed.{Kind, data_block, index_block, meta_block}
use Rattle.blocks.specs.Search.{readable}

-- the code's kind of a block, as the definitions name it
unfoldable pub kind_of : KindEnum.Kind → Kind
kind_of KindCase.Data = data_block
kind_of KindCase.Index = index_block
kind_of KindCase.Metaindex = meta_block

-- ---- one entry

-- an entry read from the rest of a block: how much it shares, how long its key is, where in the rest its value starts, and how long that is;
-- none where the key buffer, of n bytes, has no room for its key
unfoldable pub entry_answer : ℕ → Option Entry → code.Option EntryRead
entry_answer n none = None
entry_answer n (some e) =
    elim (leb (length e.key) n) [
      | true ↦ Some (record { shared = e.shared; key_len = length e.key; value_at = e.value_at; value_len = length e.value })
      | false ↦ None
    ]

-- the key buffer then: the key at its front, the rest as it was; all as it was without an entry or without room
unfoldable pub key_left : List ℕ → Option Entry → List ℕ
key_left k none = k
key_left k (some e) = put k 0 e.key

-- ---- a whole block

-- the entry at a place, or what comes after it
unfoldable pub pick : Which → Entry → List Entry → Option Entry
pick WhichCase.Here e es = some e
pick WhichCase.After e es = head? es

-- that entry; nothing where no entry starts at the place
unfoldable pub place_in : Which → ℕ → List Entry → Option (Option Entry)
place_in which at [] = none
place_in which at (e ∷ es) = elim (eqb e.start at) [ true ↦ some (pick which e es) | false ↦ place_in which at es ]

-- the entry at a place
abbrev pub at_in : ℕ → List Entry → Option (Option Entry)
at_in at es = place_in WhichCase.Here at es

-- the entry after it
abbrev pub next_in : ℕ → List Entry → Option (Option Entry)
next_in at es = place_in WhichCase.After at es

-- the code's answers: an entry, none, or an error
abbrev pub Found : Type 0
Found = Result (code.Option Declared.Entry) BlockError

-- the answer: an entry, none, or that no entry starts at the place; bad where the key buffer, of n bytes, has no room for the entry's key
unfoldable pub found_answer : ℕ → Option (Option Entry) → Found
found_answer n none = Err NoPlace
found_answer n (some none) = Ok None
found_answer n (some (some e)) =
    elim (leb (length e.key) n) [
      | true ↦ Ok (Some (record { start = e.start; key_len = length e.key; value_at = e.value_at; value_len = length e.value }))
      | false ↦ Err Bad
    ]

-- and the key buffer
unfoldable pub buffer_left : List ℕ → Option (Option Entry) → List ℕ
buffer_left k none = k
buffer_left k (some o) = key_left k o

-- on any bytes: an entry's value lies in the block, and the buffer has a key at its front; else the buffer is as it was
abbrev pub Inside : List ℕ → List ℕ → Found → List ℕ → Type 0
Inside s k (Ok (Some e)) k' =
    (e.value_at + e.value_len ≤ length s) × (e.key_len ≤ 1032) × (e.key_len ≤ length k)
    × ((x : List ℕ) × (length x ≡ e.key_len) × (k' ≡ put k 0 x))
Inside s k (Ok None) k' = k' ≡ k
Inside s k (Err e) k' = k' ≡ k

-- reading a block s with a key buffer k answers r and leaves k': what is said of its entries, where it is readable and they are ordered so
pub record Said (s : List ℕ) (says : List Entry → Option (Option Entry)) (ordered : List Entry → Bool) (k : List ℕ) (r : Found) (k' : List ℕ) : Type 0 where
  pub answer : (es : List Entry) → readable s ≡ some es → ordered es ≡ true → r ≡ found_answer (length k) (says es)
  pub buffer : (es : List Entry) → readable s ≡ some es → ordered es ≡ true → k' ≡ buffer_left k (says es)
  pub inside : Inside s k r k'

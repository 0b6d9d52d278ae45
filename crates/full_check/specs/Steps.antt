-- What the steps of the full check answer: the order of keys in a block and between blocks, one data block, and all of them.
use Rattle.std.specs.Prelude.{ℕ, ◌+◌, ◌≤◌, ◌<◌, ◌≡◌, List, [], ◌∷◌, Bool, true, false, ◌&&◌, ◌||◌, not, length, drop, Result, Ok, Err, Some, None}
use Rattle.std.specs.Prelude as code
use Rattle.std.proofs.Math.Option.{Option, none, some}
use Rattle.codec.specs.Varint.{Handle}
use Rattle.keys.specs.Order.{user_of, below}
use Rattle.blocks.specs.Block.{Pair, last_key_of, Entry, pairs_of}
use Rattle.blocks.specs.Formed.{Kind, data_block, index_block, meta_block, all, rises, well_formed}
use Rattle.block_reader.specs.Steps.{read_from}
use Rattle.filters.specs.Filter.{hash}
use Rattle.filters.specs.FilterBlock.{may_match}
use Rattle.table.specs.Checked.{Checked, pass, refuse, ◌>>=◌, ask, or_refuse}
use Rattle.table.specs.Table.{placed, contents, sealed, less_of, sorted_at, bloom_handle, filter_of, Edge, first_follows, handle_of, data_blocks_of}
use Rattle.table_block.specs.Refusals.{number}
use Rattle.table_block.specs.declared.refusal.Refusal.{Refusal}
use Rattle.full_check.specs.declared.check.Edge as Declared

-- the code's answer on a step of the check: what it hands on of what passes, or the refusal
abbrev pub Judged : {A B : Type 0} → Checked A → (A → B → Type 0) → Result B Refusal → Type 0
Judged {A} c P (Ok x) = (a : A) × (c ≡ pass a) × P a x
Judged c P (Err e) = c ≡ refuse (number e)

-- ---- the keys of a block

-- a key may come after the one before it, and the first may always come
unfoldable pub after : Kind → Bool → List ℕ → List ℕ → Bool
after kind first a b = first || less_of kind a b

-- keys that rise after the one before them, or as the first
unfoldable pub rises_from : Kind → Bool → List ℕ → List Pair → Bool
rises_from kind first k [] = true
rises_from kind first k (p ∷ ps) = after kind first k p.key && rises_from kind false p.key ps

-- the code's answer on a test of the keys of the entries that fill d: where they pass, the last key
abbrev pub Tested : (List Pair → Bool) → List ℕ → code.Option (List ℕ) → Type 0
Tested test d (Some k) = (es : List Entry) → read_from d 0 [] ≡ some es → (test (pairs_of es) ≡ true) × (last_key_of [] (pairs_of es) ≡ k)
Tested test d None = (es : List Entry) → read_from d 0 [] ≡ some es → test (pairs_of es) ≡ false

-- the key, where a test passes
abbrev pub kept : Bool → List ℕ → code.Option (List ℕ)
kept true k = Some k
kept false k = None

-- ---- a block in the table

-- 8, 9, of the block at a handle
unfoldable pub stands : List ℕ → Handle → Checked (Unit {0})
stands t h = do
  _ ← placed t h
  sealed t h

-- ---- data blocks

-- what the block before left; the first block has none before it
unfoldable pub edge_of : code.Option Declared.Edge → Option Edge
edge_of None = none
edge_of (Some e) = some (record { index_key = e.index_key; last_key = e.last_key })

-- the three tests of 11
unfoldable pub ordered : Option Edge → List ℕ → List Pair → Bool
ordered before ix ps = first_follows before ps && (rises below ps && not (below ix (last_key_of [] ps)))

-- the bytes of the filter block: none without one
unfoldable pub filter_bytes : Option (List ℕ) → List ℕ
filter_bytes none = []
filter_bytes (some s) = s

-- such bytes let the data block at an offset hold a pair
unfoldable pub lets : List ℕ → ℕ → Pair → Bool
lets s offset p = may_match s offset (hash (user_of p.key))

-- 10, 11, 12, of a data block's bytes
unfoldable pub data_in : List ℕ → ℕ → Option Edge → List ℕ → List ℕ → Checked (List Pair)
data_in filter offset before ix s = do
  es ← or_refuse 10 (well_formed data_block s)
  _ ← ask 11 (ordered before ix (pairs_of es))
  _ ← ask 12 (all (lets filter offset) (pairs_of es))
  pass (pairs_of es)

-- 8, 9, 10, 11, 12, of the data block at a handle
unfoldable pub data_at : List ℕ → List ℕ → Option Edge → List ℕ → Handle → Checked (List Pair)
data_at t filter before ix h = do
  _ ← placed t h
  _ ← sealed t h
  data_in filter h.offset before ix (contents t h)

-- each index entry's block
unfoldable pub blocks_at : List ℕ → List ℕ → Option Edge → List Pair → Checked (Unit {0})
blocks_at t filter before [] = pass tt
blocks_at t filter before (ix ∷ ixs) = do
  ps ← data_at t filter before ix.key (handle_of ix.value)
  blocks_at t filter (some (record { index_key = ix.key; last_key = last_key_of [] ps })) ixs

-- ---- the whole

-- the filter block and then the data blocks
unfoldable pub with_filter : List ℕ → Option Handle → List Pair → Checked (Unit {0})
with_filter t o ixs = do
  f ← filter_of t o
  data_blocks_of t f none ixs

-- what follows the footer
unfoldable pub after_footer : List ℕ → Handle → Handle → Checked (Unit {0})
after_footer t m i = do
  ms ← sorted_at meta_block t m
  ixs ← sorted_at index_block t i
  with_filter t (bloom_handle (pairs_of ms)) (pairs_of ixs)

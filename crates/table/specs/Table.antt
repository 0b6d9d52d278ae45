-- A table read: footer, blocks with their trailers, the full check and the plain reading.
use Rattle.std.specs.Prelude.{ℕ, ◌+◌, ◌-◌, List, [], ◌∷◌, ◌++◌, map, Bool, true, false, ◌&&◌, ◌||◌, not, leb, length, drop}
use Rattle.std.proofs.Math.Option.{Option, none, some}
use Rattle.std.proofs.Math.Dec.{compare_is_eq}
use Rattle.codec.specs.Bytes.{part, same_bytes}
use Rattle.checksum.specs.Checksum.{trailer_stands}
use Rattle.codec.specs.Varint.{Handle, handle, one_handle}
use Rattle.keys.specs.Order.{user_of, point_of, by_point, bytes_below, below}
use Rattle.blocks.specs.Block.{Pair, last_key_of, Entry, pairs_of, block}
use Rattle.blocks.specs.Formed.{Kind, data_block, index_block, meta_block, bloom_name, all, rises, well_formed}
use Rattle.filters.specs.Filter.{hash}
use Rattle.filters.specs.FilterBlock.{filter_formed, may_match}
use Rattle.table.specs.Checked.{Checked, pass, refuse, ◌>>=◌, ask, or_refuse}
use Rattle.table.specs.Options.{table_limit}

-- the last 8 bytes of a table
unfoldable pub magic : List ℕ
magic = 0x57 ∷ 0xfb ∷ 0x80 ∷ 0x8b ∷ 0x24 ∷ 0x75 ∷ 0x47 ∷ 0xdb ∷ []

-- ---- the footer, and blocks in the table

-- a block of so many bytes and its trailer end before the footer of a table of len bytes
unfoldable pub ends_before : ℕ → ℕ → ℕ → Bool
ends_before len offset size = leb (offset + size + 5) (len - 48)

-- 8: a handle's block and trailer end before the footer
unfoldable pub placed : List ℕ → Handle → Checked (Unit {0})
placed t h = ask 8 (ends_before (length t) h.offset h.size)

-- the footer's two handles
pub record Footer : Type 0 where
  pub metaindex : Handle
  pub index : Handle

-- 8 for both handles, in the 40 bytes before the magic
unfoldable pub footer_handles : List ℕ → List ℕ → Checked Footer
footer_handles t s = do
  m ← or_refuse 8 (handle s)
  i ← or_refuse 8 (handle (drop m.size s))
  _ ← placed t m.handle
  _ ← placed t i.handle
  pass (record { metaindex = m.handle; index = i.handle })

-- 7, and 8 for both handles
unfoldable pub footer : List ℕ → Checked Footer
footer t = do
  _ ← ask 7 (leb 48 (length t))
  _ ← ask 7 (leb (length t) table_limit)
  _ ← ask 7 (same_bytes (drop (length t - 8) t) magic)
  footer_handles t (part t (length t - 48) 40)

-- the bytes of the block at a handle
unfoldable pub contents : List ℕ → Handle → List ℕ
contents t h = part t h.offset h.size

-- 9: the trailer stands after the contents
unfoldable pub sealed : List ℕ → Handle → Checked (Unit {0})
sealed t h = ask 9 (trailer_stands t h.offset h.size)

-- ---- the entries of a block

-- 10: the entries of a well-formed block of a kind
unfoldable pub block_of : List ℕ → Handle → Kind → Checked (List Entry)
block_of t h kind = or_refuse 10 (well_formed kind (contents t h))

-- ---- metaindex, index and filter

-- the order of the keys of a kind of block
unfoldable pub less_of : Kind → List ℕ → List ℕ → Bool
less_of data_block = below
less_of index_block = below
less_of meta_block = bytes_below

-- 10, 11, of a block's bytes
unfoldable pub sorted_in : Kind → List ℕ → Checked (List Entry)
sorted_in kind s = do
  es ← or_refuse 10 (well_formed kind s)
  _ ← ask 11 (rises (less_of kind) (pairs_of es))
  pass es

-- 9, 10, 11: the entries of the metaindex or the index
unfoldable pub sorted_at : Kind → List ℕ → Handle → Checked (List Entry)
sorted_at kind t h = do
  _ ← sealed t h
  sorted_in kind (contents t h)

-- the handle of the filter block, where the metaindex names one
unfoldable pub bloom_handle : List Pair → Option Handle
bloom_handle [] = none
bloom_handle (p ∷ ps) = elim (same_bytes p.key bloom_name) [ true ↦ one_handle p.value | false ↦ bloom_handle ps ]

-- the filter block: 8, 9, 12
unfoldable pub filter_of : List ℕ → Option Handle → Checked (Option (List ℕ))
filter_of t none = pass none
filter_of t (some h) = do
  _ ← placed t h
  _ ← sealed t h
  _ ← ask 12 (filter_formed (contents t h))
  pass (some (contents t h))

-- whether a filter block, where there is one, lets the data block at an offset hold a word
unfoldable pub may_hold : Option (List ℕ) → ℕ → List ℕ → Bool
may_hold none offset w = true
may_hold (some s) offset w = may_match s offset (hash w)

-- what is read of a table before its data blocks: the index's entries, and the filter block
pub record Opened : Type 0 where
  pub index : List Entry
  pub filter : Option (List ℕ)

-- 7, 8; metaindex and index; filter
unfoldable pub opened : List ℕ → Checked Opened
opened t = do
  ft ← footer t
  ms ← sorted_at meta_block t ft.metaindex
  ixs ← sorted_at index_block t ft.index
  f ← filter_of t (bloom_handle (pairs_of ms))
  pass (record { index = ixs; filter = f })

-- ---- data blocks

-- what a block leaves for the test of the next: its index key and its last key
pub record Edge : Type 0 where
  pub index_key : List ℕ
  pub last_key : List ℕ

-- a block's first key against the block before it
unfoldable pub follows : Option Edge → List ℕ → Bool
follows none k = true
follows (some e) k =
    below e.last_key k
    && (below e.index_key k
    && (compare_is_eq (by_point (point_of e.index_key) (point_of e.last_key)) || bytes_below (user_of e.index_key) (user_of k)))

-- the same of the first of some entries
unfoldable pub first_follows : Option Edge → List Pair → Bool
first_follows e [] = false
first_follows e (p ∷ ps) = follows e p.key

-- the handle of an index value, which is one
unfoldable pub handle_of : List ℕ → Handle
handle_of s = elim (one_handle s) [ none ↦ record { offset = 0; size = 0 } | some h ↦ h ]

-- an index entry's block: 8, 9, 10, 11, 12
unfoldable pub data_block_of : List ℕ → Option (List ℕ) → Option Edge → Pair → Checked (List Pair)
data_block_of t f before ix = do
  let h = handle_of ix.value
  _ ← placed t h
  _ ← sealed t h
  es ← block_of t h data_block
  let ps = pairs_of es
  _ ← ask 11 (first_follows before ps)
  _ ← ask 11 (rises below ps)
  _ ← ask 11 (not (below ix.key (last_key_of [] ps)))
  _ ← ask 12 (all (λ (p : Pair). may_hold f h.offset (user_of p.key)) ps)
  pass ps

-- each index entry's block, after what the one before left
unfoldable pub data_blocks_of : List ℕ → Option (List ℕ) → Option Edge → List Pair → Checked (Unit {0})
data_blocks_of t f before [] = pass tt
data_blocks_of t f before (ix ∷ ixs) = do
  ps ← data_block_of t f before ix
  data_blocks_of t f (some (record { index_key = ix.key; last_key = last_key_of [] ps })) ixs

-- the full check: the first failure decides
unfoldable pub full_check : List ℕ → Checked (Unit {0})
full_check t = do
  o ← opened t
  data_blocks_of t o.filter none (pairs_of o.index)

-- ---- the plain reading

-- an entry of a table: its place, that is where its index entry and it start in their blocks; its key; its value and where that starts in the table
pub record Found : Type 0 where
  pub index_start : ℕ
  pub start : ℕ
  pub key : List ℕ
  pub value_at : ℕ
  pub value : List ℕ

-- an entry of the block that an index entry names
abbrev pub found_in : Entry → Entry → Found
found_in ix e =
    record { index_start = ix.start; start = e.start; key = e.key; value_at = (handle_of ix.value).offset + e.value_at; value = e.value }

-- the entries of the block at a handle: none where it is not well formed
unfoldable pub entries_at : List ℕ → Handle → List Entry
entries_at t h = elim (block (contents t h)) [ none ↦ [] | some b ↦ b.entries ]

-- all entries of that block
unfoldable pub founds_of : List ℕ → Entry → List Found
founds_of t ix = map (found_in ix) (entries_at t (handle_of ix.value))

-- all entries of the blocks that some index entries name
unfoldable pub read_blocks : List ℕ → List Entry → List Found
read_blocks t [] = []
read_blocks t (ix ∷ ixs) = founds_of t ix ++ read_blocks t ixs

-- all entries of a table, in its order
unfoldable pub plain : List ℕ → List Found
plain t = elim (footer t) [ refuse n ↦ [] | pass ft ↦ read_blocks t (entries_at t ft.index) ]

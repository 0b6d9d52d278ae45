-- How a table is built, addition by addition, and the bytes that it finishes to.
use Rattle.std.specs.Prelude.{ℕ, ◌+◌, ◌-◌, List, [], ◌∷◌, ◌++◌, map, Bool, true, false, ltb, leb, length, replicate}
use Rattle.checksum.specs.Checksum.{trailer}
use Rattle.codec.specs.Varint.{Handle, handle_bytes}
use Rattle.keys.specs.Order.{internal, separator, below}
use Rattle.blocks.specs.Block.{Pair, block_bytes, last_key_of}
use Rattle.blocks.specs.Formed.{bloom_name}
use Rattle.filters.specs.Filter.{hash}
use Rattle.filters.specs.FilterBlock.{Filtering, unfiltered, bits_per_key, Filters, no_filters, wait, filters_up_to, last_filter, filter_block_bytes}
use Rattle.table.specs.Checked.{Checked, pass, ask, ◌>>=◌}
use Rattle.table.specs.Options.{Options, index_interval, Addition, addition_fits}
use Rattle.table.specs.Table.{magic}

-- an addition's internal key
unfoldable pub key_of : Addition → List ℕ
key_of a = internal a.word a.edition a.kind

-- the entry that it becomes
unfoldable pub pair_of : Addition → Pair
pair_of a = record { key = key_of a; value = a.value }

-- ---- data blocks

-- contents and their trailer
unfoldable pub framed : List ℕ → List ℕ
framed s = s ++ trailer s

-- the additions of one data block, and the key it is indexed under
pub record Chunk : Type 0 where
  pub additions : List Addition
  pub key : List ℕ

-- a data block's contents
unfoldable pub chunk_bytes : Options → List Addition → List ℕ
chunk_bytes o xs = block_bytes o.interval (map pair_of xs)

-- the data blocks, one after the other
unfoldable pub written : Options → List Chunk → List ℕ
written o [] = []
written o (c ∷ cs) = framed (chunk_bytes o c.additions) ++ written o cs

-- where a block and its trailer end, if the block starts at a place
unfoldable pub end_of : Options → ℕ → Chunk → ℕ
end_of o at c = at + length (chunk_bytes o c.additions) + 5

-- their index entries, from a place on
unfoldable pub index_pairs : Options → ℕ → List Chunk → List Pair
index_pairs o at [] = []
index_pairs o at (c ∷ cs) =
    record { key = c.key; value = handle_bytes (record { offset = at; size = length (chunk_bytes o c.additions) }) }
    ∷ index_pairs o (end_of o at c) cs

-- their filters, from a place on: after every block, filters up to the new offset's number
unfoldable pub filters_of : Options → ℕ → Filters → List Chunk → Filters
filters_of o at f [] = f
filters_of o at f (c ∷ cs) =
    let hs = map (λ (a : Addition). hash a.word) c.additions in
    filters_of o (end_of o at c) (filters_up_to (end_of o at c) (wait hs f)) cs

-- ---- after them: the filter block, the metaindex, the index and the footer

-- the filter block: one filter more if hashes still wait
unfoldable pub filter_bytes : Options → List Chunk → List ℕ
filter_bytes o cs = filter_block_bytes o.filtering (last_filter (filters_of o 0 no_filters cs)).made

-- filter._ without filter
unfoldable pub meta_name : Filtering → List ℕ
meta_name unfiltered = 102 ∷ 105 ∷ 108 ∷ 116 ∷ 101 ∷ 114 ∷ 46 ∷ 95 ∷ []
meta_name (bits_per_key b) = bloom_name

-- the metaindex's one entry
unfoldable pub meta_pair : Options → List Chunk → Pair
meta_pair o cs =
    record { key = meta_name o.filtering; value = handle_bytes (record { offset = length (written o cs); size = length (filter_bytes o cs) }) }

-- the metaindex block
unfoldable pub meta_bytes : Options → List Chunk → List ℕ
meta_bytes o cs = block_bytes o.interval (meta_pair o cs ∷ [])

-- the index block
unfoldable pub index_bytes : Options → List Chunk → List ℕ
index_bytes o cs = block_bytes (index_interval o) (index_pairs o 0 cs)

-- the table up to the metaindex
unfoldable pub until_meta : Options → List Chunk → List ℕ
until_meta o cs = written o cs ++ framed (filter_bytes o cs)

-- up to the index
unfoldable pub until_index : Options → List Chunk → List ℕ
until_index o cs = until_meta o cs ++ framed (meta_bytes o cs)

-- up to the footer
unfoldable pub until_footer : Options → List Chunk → List ℕ
until_footer o cs = until_index o cs ++ framed (index_bytes o cs)

-- where the metaindex stands
unfoldable pub meta_handle : Options → List Chunk → Handle
meta_handle o cs = record { offset = length (until_meta o cs); size = length (meta_bytes o cs) }

-- where the index stands
unfoldable pub index_handle : Options → List Chunk → Handle
index_handle o cs = record { offset = length (until_index o cs); size = length (index_bytes o cs) }

-- both handles, zeros up to 40 bytes, and the magic
unfoldable pub footer_bytes : Handle → Handle → List ℕ
footer_bytes m i = let hs = handle_bytes m ++ handle_bytes i in hs ++ (replicate (40 - length hs) 0 ++ magic)

-- the table of some data blocks
unfoldable pub table : Options → List Chunk → List ℕ
table o cs = until_footer o cs ++ footer_bytes (meta_handle o cs) (index_handle o cs)

-- ---- a table being built: the data blocks closed, and the additions of the open one

-- the state between calls
pub record Building : Type 0 where
  pub closed : List Chunk
  pub open_block : List Addition

-- nothing added yet
unfoldable pub begin : Building
begin = record { closed = []; open_block = [] }

-- the key of the last of some additions
unfoldable pub last_key : List Addition → List ℕ
last_key xs = last_key_of [] (map pair_of xs)

-- the open block closed, and indexed under a key
unfoldable pub close : List ℕ → Building → Building
close key b = record { closed = b.closed ++ (record { additions = b.open_block; key = key } ∷ []); open_block = [] }

-- before an addition: the open block is closed where it is over the block size
unfoldable pub close_before : Options → List ℕ → Building → Building
close_before o key b =
    elim (ltb o.block_size (length (chunk_bytes o b.open_block))) [ true ↦ close (separator (last_key b.open_block) key) b | false ↦ b ]

-- an addition, which is accepted, goes into the open block
unfoldable pub add : Options → Building → Addition → Building
add o b a = let c = close_before o (key_of a) b in record { closed = c.closed; open_block = c.open_block ++ (a ∷ []) }

-- at the end: a pending block is closed, and indexed under its last key
unfoldable pub close_last : Building → Building
close_last b = elim b.open_block [ [] ↦ b | a ∷ more ↦ close (last_key b.open_block) b ]

-- the table that is written at the end
unfoldable pub finish : Options → Building → List ℕ
finish o b = table o (close_last b).closed

-- ---- what is accepted

-- an addition's key is above the last accepted one
unfoldable pub above : Addition → List Addition → Bool
above a [] = true
above a (c ∷ more) = below (last_key (c ∷ more)) (key_of a)

-- an addition's answer, in a table of at most so many bytes: 3, 4, 5, or the table with it
unfoldable pub accept : Options → ℕ → Building → Addition → Checked Building
accept o room b a = do
  _ ← ask 3 (addition_fits a)
  _ ← ask 4 (above a b.open_block)
  _ ← ask 5 (leb (length (finish o (add o b a))) room)
  pass (add o b a)

-- one after the other, up to the first refusal
unfoldable pub accept_all : Options → ℕ → Building → List Addition → Checked Building
accept_all o room b [] = pass b
accept_all o room b (a ∷ more) = do
  c ← accept o room b a
  accept_all o room c more

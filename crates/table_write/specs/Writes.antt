-- What the parts of a table leave in the runs when they are written.
use Rattle.std.specs.Prelude.{ℕ, ◌+◌, ◌-◌, ◌≤◌, ◌^◌, min, ◌≡◌, List, [], ◌∷◌, ◌++◌, Bool, true, false, length, take, Result}
use Rattle.codec.specs.Bytes.{part}
use Rattle.checksum.specs.Checksum.{trailer}
use Rattle.codec.specs.Put.{put}
use Rattle.codec.specs.Varint.{Handle, handle_bytes}
use Rattle.codec.specs.declared.put.NoRoom.{NoRoom}
use Rattle.block_builder.specs.declared.block_builder.BlockBuilder.{BlockBuilder}
use Rattle.blocks.specs.Block.{Pair, tail_bytes, block_bytes}
use Rattle.block_builder.specs.Builder as Blocks
use Rattle.blocks.specs.Count.{count_size}
use Rattle.block_builder.specs.Builder.{count_in, AddedIs}
use Rattle.filter_block.specs.declared.filter_block.Made.{Made}
use Rattle.filters.specs.Filter.{hash}
use Rattle.filters.specs.FilterBlock.{Filtering, filter_block_of}
use Rattle.filter_block.specs.Make.{groups_up_to, MadeFilters}
use Rattle.table.specs.Build.{framed, meta_name, footer_bytes}
use Rattle.table.specs.Runs.{overlay}

-- a block's bytes, were it finished now, as far as 64 bits hold their number
unfoldable pub size_of : BlockBuilder → ℕ
size_of b = min (2 ^ 64 - 1) (count_size (count_in b))

-- the restarts behind the entries of a block at a place of out
unfoldable pub tailed_out : List ℕ → ℕ → BlockBuilder → List ℕ → List ℕ
tailed_out out at b rs = put out (at + b.bytes) (tail_bytes (take b.restarts rs))

-- and then the trailer
unfoldable pub sealed_out : List ℕ → ℕ → BlockBuilder → List ℕ → List ℕ
sealed_out out at b rs = put (tailed_out out at b rs) (at + size_of b) (trailer (part (tailed_out out at b rs) at (size_of b)))

-- ---- a block closed, or not

-- sealed, where it stands
pub record ClosedOut (closing : Bool) (b : BlockBuilder) (at : ℕ) (out out' restarts : List ℕ) : Type 0 where
  pub done : closing ≡ true → out' ≡ sealed_out out at b restarts
  pub kept : closing ≡ false → out' ≡ out

-- indexed under a key
pub record ClosedIndex (closing : Bool) (b : BlockBuilder) (at : ℕ) (indexed : BlockBuilder) (key index index' restarts restarts' : List ℕ) : Type 0 where
  pub added : Result (Unit {0}) NoRoom
  pub after : BlockBuilder
  pub done : closing ≡ true → AddedIs indexed 0 index index' restarts restarts' key (handle_bytes (record { offset = at; size = size_of b })) added after
  pub kept : closing ≡ false → (index' ≡ index) × (restarts' ≡ restarts)

-- more filters, or not: of the hashes that wait, until there are n
pub record MoreFilters (more : Bool) (c : Filtering) (n bytes made : ℕ) (filters filters' offsets offsets' waiting : List ℕ) : Type 0 where
  pub said : Result Made NoRoom
  pub done : more ≡ true → MadeFilters c (groups_up_to made n waiting) bytes made said filters filters' offsets offsets'
  pub kept : more ≡ false → (filters' ≡ filters) × (offsets' ≡ offsets)

-- ---- an entry

-- an entry written into a block that starts at a place of out, and its word's hash behind those that wait
pub record EnteredRuns (b : BlockBuilder) (at waiting : ℕ) (key word value out out' restarts restarts' hashes hashes' : List ℕ) : Type 0 where
  pub added : Result (Unit {0}) NoRoom
  pub after : BlockBuilder
  pub entry : AddedIs b at out out' restarts restarts' key value added after
  pub hash : hashes' ≡ put hashes waiting (hash word ∷ [])

-- ---- the end

-- contents and their trailer written at a place, where there is room
pub record Framed (out : List ℕ) (at : ℕ) (bs out' : List ℕ) : Type 0 where
  pub framed : at + length bs + 5 ≤ length out → out' ≡ put out at (framed bs)

-- the index block and its trailer written at a place, where there is room, from runs in which it stands
pub record IndexPut (b : BlockBuilder) (index restarts : List ℕ) (at : ℕ) (out out' : List ℕ) : Type 0 where
  pub wrote : (i : ℕ) (ps : List Pair) → Blocks.Stands i ps b 0 index restarts → Framed out at (block_bytes i ps) out'

-- the end of a table has numbers of 64 bits, and what it is written from stands within runs of such lengths
pub record EndFits (at bytes made : ℕ) (indexed : BlockBuilder) (filters offsets index : ℕ) : Type 0 where
  pub written : at ≤ 2 ^ 40
  pub filter_bytes : bytes ≤ 2 ^ 40
  pub filter_count : made ≤ 2 ^ 40
  pub index_size : count_size (count_in indexed) ≤ 2 ^ 40
  pub in_filters : bytes ≤ filters
  pub in_offsets : made ≤ offsets
  pub in_index : indexed.bytes ≤ index

-- the metaindex block at the end, by the handle of a filter block
unfoldable pub meta_block : ℕ → Filtering → Handle → List ℕ
meta_block interval c h = block_bytes interval (record { key = meta_name c; value = handle_bytes h } ∷ [])

-- a whole table: the data blocks, then filter block, metaindex, index and footer
abbrev pub whole : List ℕ → List ℕ → List ℕ → List ℕ → List ℕ
whole w fb mb ib =
    let t = w ++ framed fb in
    let u = t ++ framed mb in
    u ++ framed ib ++ footer_bytes (record { offset = length t; size = length mb }) (record { offset = length u; size = length ib })

-- filter block, metaindex, index and footer behind the data blocks, where there is room
pub record EndPut (interval : ℕ) (c : Filtering) (at : ℕ) (indexed : BlockBuilder) (filters offsets index restarts out out' : List ℕ) : Type 0 where
  pub wrote : 1 ≤ interval → interval ≤ 1024 → (i : ℕ) (ps : List Pair) → Blocks.Stands i ps indexed 0 index restarts
      → (w r : List ℕ) → out ≡ overlay w r → length w ≡ at
      → (let fb = filter_block_of filters offsets in
      let all = whole w fb (meta_block interval c (record { offset = at; size = length fb })) (block_bytes i ps) in
      length all ≤ length r → out' ≡ overlay all r)

-- the end written, of the first bytes of filters and the first made offsets, or nothing
pub record EndWritten (interval : ℕ) (c : Filtering) (at bytes made : ℕ) (indexed : BlockBuilder) (filters offsets index restarts out out' : List ℕ) : Type 0 where
  pub done : EndFits at bytes made indexed (length filters) (length offsets) (length index)
      → EndPut interval c at indexed (take bytes filters) (take made offsets) index restarts out out'
  pub kept : (EndFits at bytes made indexed (length filters) (length offsets) (length index) → ⊥) → out' ≡ out

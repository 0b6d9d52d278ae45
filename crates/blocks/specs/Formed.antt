-- Well-formed blocks of the three kinds, with the limits of their keys and values.
use Rattle.std.specs.Prelude.{ℕ, List, [], ◌∷◌, Bool, true, false, ◌&&◌, ◌||◌, not, leb, length}
use Rattle.std.proofs.Math.Option.{Option, none, some}
use Rattle.codec.specs.Bytes.{same_bytes}
use Rattle.codec.specs.Limits.{within}
use Rattle.codec.specs.Maybe.{◌>>=◌, ask}
use Rattle.codec.specs.Varint.{one_handle}
use Rattle.blocks.specs.Block.{Pair, Entry, pairs_of, block}

-- data blocks, the index and the metaindex
pub data Kind : Type 0 where
  data_block : Kind
  index_block : Kind
  meta_block : Kind

-- one handle and nothing more
unfoldable pub is_handle : List ℕ → Bool
is_handle s = elim (one_handle s) [ none ↦ false | some h ↦ true ]

-- the name of the metaindex entry for the filter: filter.leveldb.BuiltinBloomFilter2
unfoldable pub bloom_name : List ℕ
bloom_name =
    102 ∷ 105 ∷ 108 ∷ 116 ∷ 101 ∷ 114 ∷ 46 ∷ 108 ∷ 101 ∷ 118 ∷ 101 ∷ 108 ∷ 100 ∷ 98 ∷ 46 ∷ 66 ∷ 117 ∷ 105 ∷ 108 ∷ 116 ∷ 105 ∷ 110 ∷ 66
    ∷ 108 ∷ 111 ∷ 111 ∷ 109 ∷ 70 ∷ 105 ∷ 108 ∷ 116 ∷ 101 ∷ 114 ∷ 50 ∷ []

-- keys of 9 to 1,032 bytes and values of at most 32,768; in the index values that are handles; in the metaindex keys of 1 to 1,032 bytes, and
-- the Bloom entry's value is a handle
unfoldable pub entry_fits : Kind → Pair → Bool
entry_fits data_block p = within 9 1032 (length p.key) && leb (length p.value) 32768
entry_fits index_block p = within 9 1032 (length p.key) && is_handle p.value
entry_fits meta_block p = within 1 1032 (length p.key) && (not (same_bytes p.key bloom_name) || is_handle p.value)

-- all pass a test
unfoldable pub all : (Pair → Bool) → List Pair → Bool
all f [] = true
all f (p ∷ ps) = f p && all f ps

-- data blocks are not empty
unfoldable pub enough : Kind → List Pair → Bool
enough data_block [] = false
enough data_block (p ∷ ps) = true
enough index_block ps = true
enough meta_block ps = true

-- the entries of a well-formed block of a kind: nothing where it is not well formed
unfoldable pub well_formed : Kind → List ℕ → Option (List Entry)
well_formed kind s = do
  b ← block s
  _ ← ask (enough kind (pairs_of b.entries))
  _ ← ask (all (entry_fits kind) (pairs_of b.entries))
  some b.entries

-- whether it is well formed
unfoldable pub is_formed : Kind → List ℕ → Bool
is_formed kind s = elim (well_formed kind s) [ none ↦ false | some es ↦ true ]

-- each key above the one before it
unfoldable pub rises : (List ℕ → List ℕ → Bool) → List Pair → Bool
rises less [] = true
rises less (p ∷ []) = true
rises less (p ∷ q ∷ ps) = less p.key q.key && rises less (q ∷ ps)

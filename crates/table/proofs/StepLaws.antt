-- Building block by block: what one data block more adds, the last one, and how long the table is.
use Prim.Native.Nat.{ℕ, ◌+◌, ◌≤◌}
use mathlib.Core.Path.{◌≡◌, refl}
use mathlib.Core.List.{List, [], ◌∷◌, ◌++◌, append_assoc}
use native.Mathlib.Omega.{arith}
use native.Mathlib.Nat.{add-zero}
use lib.ListN.{length, length-append}
use Rattle.codec.specs.Bytes.{bytes_of, fours}
use Rattle.codec.specs.Varint.{varint_bytes_f, varint_bytes, handle_bytes}
use Rattle.blocks.specs.Block.{head_bytes, entry_bytes}
use Rattle.blocks.proofs.BuildLaws.{one_long, none_long}
use Rattle.filters.specs.FilterBlock.{Filtering, unfiltered, bits_per_key, Filters, no_filters, last_filter, made_bytes, starts, filter_block_of, filter_block_bytes}
use Rattle.table.specs.Options.{Options, index_interval, table_limit, empty_size, Addition}
use Rattle.blocks.specs.Formed.{bloom_name}
use Rattle.table.specs.Build.{Chunk, Building, framed, chunk_bytes, written, end_of, index_pairs, filters_of, filter_bytes, meta_name, meta_pair, meta_bytes, index_bytes, meta_handle, index_handle, table, last_key, close, close_last}
use Rattle.table.proofs.FrameLaws.{framed_length, footer_long}
use Rattle.table.proofs.PlainLaws.{table_long}

module _ (o : Options) where
  pub written_append : (cs ds : List Chunk) → written o (cs ++ ds) ≡ written o cs ++ written o ds
  unfolding written
  written_append [] ds = refl
  written_append (c ∷ cs) ds = rw (written_append cs ds) (simp append_assoc)

  end_length : (at : ℕ) (c : Chunk) (cs : List Chunk) → at + length (written o (c ∷ cs)) ≡ end_of o at c + length (written o cs)
  unfolding written end_of
  end_length at c cs = let s = chunk_bytes o c.additions in omega (arith, length-append (framed s) (written o cs), framed_length s)

  pub index_append : (at : ℕ) (cs ds : List Chunk) → index_pairs o at (cs ++ ds) ≡ index_pairs o at cs ++ index_pairs o (at + length (written o cs)) ds
  unfolding index_pairs
  index_append at [] ds = unfold written in rw add-zero
  index_append at (c ∷ cs) ds = rw (end_length at c cs, index_append (end_of o at c) cs ds)

  pub filters_append : (at : ℕ) (f : Filters) (cs ds : List Chunk) → filters_of o at f (cs ++ ds) ≡ filters_of o (at + length (written o cs)) (filters_of o at f cs) ds
  unfolding filters_of
  filters_append at f [] ds = unfold written in rw add-zero
  filters_append at f (c ∷ cs) ds = rw (end_length at c cs) (filters_append (end_of o at c) _ cs ds)

  -- the table's size
  pub table_length : (cs : List Chunk) → length (table o cs) ≡ length (written o cs) + length (filter_bytes o cs) + length (meta_bytes o cs) + length (index_bytes o cs) + 63
  table_length cs = omega (arith, table_long o cs, footer_long (meta_handle o cs) (index_handle o cs))

-- ---- the last block

pub last_none : (b : Building) → b.open_block ≡ [] → close_last b ≡ b
unfolding close_last
last_none b e = cc

pub last_some : (b : Building) (x : Addition) (xs : List Addition) → b.open_block ≡ x ∷ xs → close_last b ≡ close (last_key b.open_block) b
unfolding close_last
last_some b x xs e = cc

-- ---- a table of nothing

pub empty_most : (c : Filtering) → empty_size c ≤ 123
unfolding empty_size
empty_most unfiltered = omega arith
empty_most (bits_per_key b) = omega arith

module _ (o : Options) where
  empty_filter_size : length (filter_bytes o []) ≡ 5
  unfolding filter_bytes last_filter filters_of no_filters made_bytes starts filter_block_bytes filter_block_of fours bytes_of
  empty_filter_size = refl

  empty_written_size : length (written o []) ≡ 0
  unfolding written
  empty_written_size = refl

  empty_index_size : length (index_bytes o []) ≡ 8
  unfolding index_bytes index_pairs
  empty_index_size = none_long (index_interval o)

  meta_is : meta_pair o [] ≡ record { key = meta_name o.filtering; value = 0 ∷ 5 ∷ [] }
  unfolding meta_pair handle_bytes varint_bytes varint_bytes_f
  meta_is = rw (empty_filter_size, empty_written_size)

  empty_meta_size : (c : Filtering) → length (entry_bytes 0 (record { key = meta_name c; value = 0 ∷ 5 ∷ [] })) + 84 ≡ empty_size c
  unfolding entry_bytes head_bytes varint_bytes varint_bytes_f meta_name bloom_name empty_size
  empty_meta_size unfiltered = refl
  empty_meta_size (bits_per_key b) = refl

  pub empty_size_lem : length (table o []) ≡ empty_size o.filtering
  empty_size_lem =
      let one : length (meta_bytes o []) ≡ length (entry_bytes 0 (record { key = meta_name o.filtering; value = 0 ∷ 5 ∷ [] })) + 8 =
      unfold meta_bytes in rw meta_is (one_long o.interval _) in
      omega (arith, table_length o [], empty_meta_size o.filtering, empty_written_size, empty_filter_size, empty_index_size)

  pub empty_small : length (table o []) ≤ table_limit
  empty_small = omega (arith, empty_size_lem, empty_most o.filtering)

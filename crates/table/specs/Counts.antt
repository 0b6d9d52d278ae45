-- The sizes of a table being built, in numbers and two last keys alone: what code keeps of it, how an addition moves them, and the
-- size of the table finished now.
use Rattle.std.specs.Prelude.{ℕ, zero, suc, ◌+◌, List, map, true, false, ltb, length}
use Rattle.keys.specs.Order.{separator}
use Rattle.blocks.specs.Count.{BlockCount, count_of, no_entries, varint_size, entry_size, count_entry, count_size}
use Rattle.filters.specs.FilterBlock.{Filtering}
use Rattle.filters.specs.FilterCount.{FilterCount, filter_count_of, count_waiting, count_up_to, count_last, filter_block_size}
use Rattle.table.specs.Options.{Options, index_interval}
use Rattle.table.specs.Build.{Building, pair_of, written, index_pairs, meta_name}
use Rattle.table.specs.Runs.{filters_now}

-- the bytes written, the open block, the index block, and the filters with the open block's hashes waiting
pub record Counts : Type 0 where
  pub written : ℕ
  pub open_block : BlockCount
  pub index : BlockCount
  pub filters : FilterCount

-- the counts of a table being built
unfoldable pub counts_of : Options → Building → Counts
counts_of o b =
    record {
      written = length (written o b.closed);
      open_block = count_of o.interval (map pair_of b.open_block);
      index = count_of (index_interval o) (index_pairs o 0 b.closed);
      filters = filter_count_of o.filtering (filters_now o b);
    }

-- of nothing added yet
unfoldable pub no_counts : Options → Counts
no_counts o =
    record {
      written = 0;
      open_block = no_entries o.interval;
      index = no_entries (index_interval o);
      filters = record { bytes = 0; made = 0; waiting = 0 };
    }

-- the bytes of a handle
unfoldable pub handle_size : ℕ → ℕ → ℕ
handle_size offset size = varint_size offset + varint_size size

-- the open block written, and indexed under a key
unfoldable pub count_close : Options → List ℕ → Counts → Counts
count_close o key c =
    let size = count_size c.open_block in
    let end = c.written + size + 5 in
    record {
      written = end;
      open_block = no_entries o.interval;
      index = count_entry (index_interval o) c.index key (handle_size c.written size);
      filters = count_up_to o.filtering end c.filters;
    }

-- before an addition: the open block is closed where it is over the block size
unfoldable pub count_close_before : Options → List ℕ → Counts → Counts
count_close_before o key c =
    elim (ltb o.block_size (count_size c.open_block)) [ true ↦ count_close o (separator c.open_block.last key) c | false ↦ c ]

-- an addition of a key, with a value of so many bytes
unfoldable pub count_add : Options → Counts → List ℕ → ℕ → Counts
count_add o c key value =
    let d = count_close_before o key c in
    record {
      written = d.written;
      open_block = count_entry o.interval d.open_block key value;
      index = d.index;
      filters = count_waiting d.filters;
    }

-- at the end: a pending block is closed, and indexed under its last key
unfoldable pub count_close_last : Options → Counts → Counts
count_close_last o c = elim c.open_block.restarts [ zero ↦ c | suc n ↦ count_close o c.open_block.last c ]

-- the metaindex block's bytes: one entry, one restart and the count
unfoldable pub meta_size : Filtering → ℕ → ℕ → ℕ
meta_size f offset size = entry_size 0 (length (meta_name f)) (handle_size offset size) + 8

-- data blocks; filter block, metaindex and index block of such sizes with their trailers; the footer
unfoldable pub end_size : Filtering → ℕ → ℕ → ℕ → ℕ
end_size f written filter index = written + (filter + 5) + (meta_size f written filter + 5) + (index + 5) + 48

-- the table finished now
unfoldable pub finished_size : Options → Counts → ℕ
finished_size o c =
    let d = count_close_last o c in
    let filter = filter_block_size (count_last o.filtering d.filters) in
    end_size o.filtering d.written filter (count_size d.index)

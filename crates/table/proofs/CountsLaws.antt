-- The counts of a table being built: of nothing, of one addition more, and the finished table's size.
use Prim.Native.Nat.{ℕ, zero, suc, ◌+◌}
use mathlib.Core.Path.{◌≡◌, refl}
use mathlib.Core.List.{List, [], ◌∷◌, ◌++◌, map, map-append, append-nil}
use native.Mathlib.Nat.{zero-add}
use native.Mathlib.Omega.{arith}
use lib.Dec.{ltb}
use lib.ListN.{length, length-append}
use Rattle.codec.specs.Varint.{handle_bytes}
use Rattle.codec.proofs.Prelude.{test, apart}
use Rattle.keys.specs.Order.{separator}
use Rattle.blocks.specs.Count.{count_of, no_entries, count_entry, count_size}
use Rattle.blocks.proofs.BuildLaws.{one_long}
use Rattle.blocks.proofs.CountLaws.{count_none, count_entry_lem, count_size_lem, count_zero, entry_long}
use Rattle.filters.specs.FilterBlock.{Filters, no_filters, wait, last_filter}
use Rattle.filters.specs.FilterCount.{filter_count_of, count_waiting, count_up_to, count_last, filter_block_size}
use Rattle.filters.proofs.FilterCountLaws.{wait_append, count_no_filters, count_wait, count_up_to_lem, count_last_lem, count_block}
use Rattle.table.specs.Options.{Options, index_interval, Addition}
use Rattle.table.specs.Build.{Chunk, Building, key_of, pair_of, chunk_bytes, written, end_of, index_pairs, filters_of, filter_bytes, meta_pair, meta_bytes, index_bytes, begin, last_key, close, close_before, add, close_last, finish}
use Rattle.table.specs.Runs.{filters_now}
use Rattle.table.specs.Counts.{Counts, counts_of, no_counts, handle_size, count_close, count_close_before, count_add, count_close_last, meta_size, end_size, finished_size}
use Rattle.table.specs.Sizes.{counts_begin, counts_add, size_finished}
use Rattle.table.proofs.FrameLaws.{framed_length}
use Rattle.table.proofs.StepLaws.{written_append, index_append, filters_append, table_length, last_none, last_some}

pub wait_none : (f : Filters) → wait [] f ≡ f
unfolding wait
wait_none f = rw append-nil

pub counts_begin_lem : counts_begin
unfolding counts_of no_counts begin filters_now written index_pairs filters_of
counts_begin_lem o = rw (count_none o.interval, count_none (index_interval o), wait_none no_filters, count_no_filters o.filtering)

pub handle_length : (offset size : ℕ) → length (handle_bytes (record { offset = offset; size = size })) ≡ handle_size offset size
unfolding handle_bytes handle_size
handle_length offset size = simp length-append

module _ (o : Options) where
  pub chunk_size : (xs : List Addition) → length (chunk_bytes o xs) ≡ count_size (count_of o.interval (map pair_of xs))
  unfolding chunk_bytes
  chunk_size xs = count_size_lem o.interval (map pair_of xs)

  -- ---- a block closed

  module _ (key : List ℕ) (b : Building) where
    abbrev before : ℕ
    before = length (written o b.closed)

    abbrev size : ℕ
    size = count_size (count_of o.interval (map pair_of b.open_block))

    close_written : length (written o (close key b).closed) ≡ before + size + 5
    unfolding close written
    close_written =
        rw (written_append o b.closed _) (simp (length-append, append-nil, framed_length) (omega (arith, chunk_size b.open_block)))

    close_index : count_of (index_interval o) (index_pairs o 0 (close key b).closed)
        ≡ count_entry (index_interval o) (count_of (index_interval o) (index_pairs o 0 b.closed)) key (handle_size before size)
    unfolding close index_pairs
    close_index = rw (index_append o 0 b.closed _, zero-add, chunk_size b.open_block, count_entry_lem, handle_length)

    close_filters : filter_count_of o.filtering (filters_now o (close key b)) ≡ count_up_to o.filtering (before + size + 5) (filter_count_of o.filtering (filters_now o b))
    unfolding close filters_now filters_of end_of
    close_filters = rw (wait_none, filters_append o 0 no_filters b.closed _, zero-add, chunk_size b.open_block, count_up_to_lem o.filtering)

    pub counts_close : counts_of o (close key b) ≡ count_close o key (counts_of o b)
    unfolding counts_of count_close
    counts_close =
        let none : count_of o.interval (map pair_of (close key b).open_block) ≡ no_entries o.interval = unfold close in count_none o.interval in
        λ i. record { written = close_written i; open_block = none i; index = close_index i; filters = close_filters i }

  -- ---- an addition

  counts_before : (key : List ℕ) (b : Building) → counts_of o (close_before o key b) ≡ count_close_before o key (counts_of o b)
  unfolding close_before count_close_before counts_of count_of last_key
  counts_before key b =
      let e = chunk_size b.open_block in
      test (ltb o.block_size (size key b))
      (λ t. rw (e, close_before, t, count_close_before) (counts_close (separator (last_key b.open_block) key) b))
      (λ t. rw (e, close_before, t, count_close_before))

  -- into the open block
  pub counts_put : (b : Building) (a : Addition) → counts_of o (record { closed = b.closed; open_block = b.open_block ++ (a ∷ []) })
      ≡ (let c = counts_of o b in
      record {
        written = c.written;
        open_block = count_entry o.interval c.open_block (key_of a) (length a.value);
        index = c.index;
        filters = count_waiting c.filters;
      })
  unfolding counts_of filters_now pair_of
  counts_put b a =
      rw (map-append pair_of b.open_block (a ∷ []), map-append, wait_append, count_wait, count_entry_lem)

  -- ---- the end

  pub no_open : (b : Building) → (close_last b).open_block ≡ []
  no_open b = go b.open_block refl
    where
      go : (xs : List Addition) → b.open_block ≡ xs → (close_last b).open_block ≡ []
      go [] e = rw (last_none b e) e
      go (x ∷ xs) e = rw (last_some b x xs e) (unfold close in refl)

  pub last_filters_lem : (b : Building) → filters_now o (close_last b) ≡ filters_of o 0 no_filters (close_last b).closed
  unfolding filters_now
  last_filters_lem b = rw (no_open b) (wait_none (filters_of o 0 no_filters (close_last b).closed))

  count_last_none : (c : Counts) → c.open_block.restarts ≡ 0 → count_close_last o c ≡ c
  unfolding count_close_last
  count_last_none c e = cc

  count_last_some : (c : Counts) (n : ℕ) → c.open_block.restarts ≡ suc n → count_close_last o c ≡ count_close o c.open_block.last c
  unfolding count_close_last
  count_last_some c n e = cc

  pub counts_last : (b : Building) → counts_of o (close_last b) ≡ count_close_last o (counts_of o b)
  unfolding counts_of count_of last_key
  counts_last b = go b.open_block (counts_of o b).open_block.restarts refl refl
    where
      go : (xs : List Addition) (n : ℕ) → b.open_block ≡ xs → (counts_of o b).open_block.restarts ≡ n → counts_of o (close_last b) ≡ count_close_last o (counts_of o b)
      go [] n e r = rw (last_none b e, count_last_none (counts_of o b) ((count_zero o.interval (map pair_of b.open_block)).1 (rw e)))
      go (x ∷ xs) zero e r = apart (cc ((count_zero o.interval (map pair_of b.open_block)).0 r))
      go (x ∷ xs) (suc n) e r = rw (last_some b x xs e, count_last_some (counts_of o b) n r) (counts_close (last_key b.open_block) b)

  filter_block_size_lem : (cs : List Chunk) → length (filter_bytes o cs) ≡ filter_block_size (count_last o.filtering (filter_count_of o.filtering (filters_of o 0 no_filters cs)))
  unfolding filter_bytes
  filter_block_size_lem cs = rw (← count_last_lem o.filtering) (count_block o.filtering (last_filter (filters_of o 0 no_filters cs)))

  meta_size_lem : (cs : List Chunk) → length (meta_bytes o cs) ≡ meta_size o.filtering (length (written o cs)) (length (filter_bytes o cs))
  unfolding meta_bytes meta_size meta_pair
  meta_size_lem cs = rw (one_long, entry_long, handle_length)

  index_size_lem : (cs : List Chunk) → length (index_bytes o cs) ≡ count_size (count_of (index_interval o) (index_pairs o 0 cs))
  unfolding index_bytes
  index_size_lem cs = count_size_lem (index_interval o) (index_pairs o 0 cs)

pub counts_add_lem : counts_add
unfolding add count_add
counts_add_lem o b a = rw (← counts_before o (key_of a) b) (counts_put o (close_before o (key_of a) b) a)

pub size_finished_lem : size_finished
unfolding finish finished_size end_size counts_of
size_finished_lem o b =
    let cs = (close_last b).closed in
    rw (← counts_last o b, last_filters_lem o b, ← filter_block_size_lem o cs)
    (omega (arith, table_length o cs, meta_size_lem o cs, index_size_lem o cs))

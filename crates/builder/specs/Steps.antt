-- How the builder's private functions move a state, in numbers.
use Rattle.std.specs.Prelude.{ℕ, zero, suc, ◌+◌, ◌≤◌, ◌≡◌, List, ◌⊎◌, Bool, true, ◌&&◌, cond, eqb, leb, ltb, length, take, Result, Ok, Err}
use Rattle.table_block.specs.declared.refusal.Refusal as Why
use Rattle.table_block.specs.declared.refusal.Refusal.TheVariants.{Order, Full}
use Rattle.table_block.specs.Refusals.{number, refusal}
use Rattle.keys.specs.Order.{below, separator}
use Rattle.blocks.specs.Count.{count_size}
use Rattle.block_builder.specs.declared.block_builder.BlockBuilder.{BlockBuilder}
use Rattle.block_builder.specs.Builder.{count_in, new_builder, builder_after}
use Rattle.filters.specs.FilterCount.{FilterCount, count_up_to, count_last}
use Rattle.bloom.specs.Choice.{choice_of}
use Rattle.table.specs.Options.{filtering_fits, table_limit}
use Rattle.table.specs.Runs.{room_of}
use Rattle.table.specs.Counts.{handle_size, finished_size}
use Rattle.builder.specs.declared.table_builder.Lengths.{Lengths}
use Rattle.builder.specs.declared.table_builder.Builder.{Builder}
use Rattle.builder.specs.declared.table_builder.Plan.{Plan}
use Rattle.builder.specs.declared.table_builder.Close.{Close}
use Rattle.builder.specs.declared.table_builder.Sizes.{Sizes}
use Rattle.builder.specs.declared.table_builder.Ending.{Ending}
use Rattle.builder.specs.declared.table_builder.FilterSizes.{FilterSizes}
use Rattle.builder.specs.State.{options_of, counts_in, sane}

-- the counts are those that a table within the limit can have
unfoldable pub small : Builder → Bool
small s =
    eqb s.pending.interval s.options.interval
    && (eqb s.indexed.interval s.options.interval
    && (leb s.pending.since s.options.interval
    && (leb s.indexed.since s.options.interval
    && (leb s.written table_limit
    && (leb s.pending.bytes table_limit
    && (leb s.pending.restarts table_limit
    && (leb s.indexed.bytes table_limit
    && (leb s.indexed.restarts table_limit && (leb s.filtered table_limit && (leb s.made table_limit && leb s.waiting table_limit))))))))))

-- and its options are within the limits
pub record Small (s : Builder) : Type 0 where
  pub interval : s.pending.interval ≡ s.options.interval
  pub index_interval : s.indexed.interval ≡ s.options.interval
  pub least : 1 ≤ s.options.interval
  pub most : s.options.interval ≤ 1024
  pub fits : filtering_fits (choice_of s.options.filter) ≡ true
  pub since : s.pending.since ≤ s.options.interval
  pub index_since : s.indexed.since ≤ s.options.interval
  pub written : s.written ≤ table_limit
  pub bytes : s.pending.bytes ≤ table_limit
  pub restarts : s.pending.restarts ≤ table_limit
  pub index_bytes : s.indexed.bytes ≤ table_limit
  pub index_restarts : s.indexed.restarts ≤ table_limit
  pub filtered : s.filtered ≤ table_limit
  pub made : s.made ≤ table_limit
  pub waiting : s.waiting ≤ table_limit

-- the filters' counts
unfoldable pub filter_count_in : FilterSizes → FilterCount
filter_count_in f = record { bytes = f.bytes; made = f.made; waiting = f.waiting }

-- and back
unfoldable pub filter_sizes : FilterCount → FilterSizes
filter_sizes c = record { bytes = c.bytes; made = c.made; waiting = c.waiting }

-- the filters of a state
abbrev pub filters_in : Builder → FilterSizes
filters_in s = record { bytes = s.filtered; made = s.made; waiting = s.waiting }

-- the open block's bytes, were it finished now
unfoldable pub open_size : Builder → ℕ
open_size s = count_size (count_in s.pending)

-- the open block's last key
unfoldable pub last_of : Builder → List ℕ
last_of s = take s.pending.len s.pending.last

-- where the open block ends, were it closed now
unfoldable pub ends_at : Builder → ℕ
ends_at s = s.written + open_size s + 5

-- what it is when it is closed: where it ends, its handle's bytes, and the filters then
unfoldable pub close_in : Builder → Close
close_in s =
    record {
      end = ends_at s;
      handle = handle_size s.written (open_size s);
      filters = filter_sizes (count_up_to (choice_of s.options.filter) (ends_at s) (filter_count_in (filters_in s)));
    }

-- the open block closed, and indexed under a key
unfoldable pub closed_state : Builder → List ℕ → Builder
closed_state s key =
    let c = close_in s in
    record {
      options = s.options;
      lengths = s.lengths;
      written = c.end;
      pending = new_builder s.options.interval;
      indexed = builder_after s.indexed key c.handle;
      filtered = c.filters.bytes;
      made = c.filters.made;
      waiting = c.filters.waiting;
      finished = s.finished;
    }

-- one entry more can be counted, of a key and a value of so many bytes
pub record Roomy (s : Builder) (k v : ℕ) : Type 0 where
  pub key : k ≤ 1032
  pub value : v ≤ 32768
  pub least : 1 ≤ s.pending.interval
  pub most : s.pending.interval ≤ 1024
  pub since : s.pending.since ≤ s.pending.interval
  pub bytes : s.pending.bytes ≤ table_limit
  pub restarts : s.pending.restarts ≤ table_limit
  pub waiting : s.waiting ≤ table_limit

-- one entry more in the open block
unfoldable pub entered_state : Builder → List ℕ → ℕ → Builder
entered_state s key value =
    record {
      options = s.options;
      lengths = s.lengths;
      written = s.written;
      pending = builder_after s.pending key value;
      indexed = s.indexed;
      filtered = s.filtered;
      made = s.made;
      waiting = s.waiting + 1;
      finished = s.finished;
    }

-- at the end: a pending block closed, and indexed under its last key
unfoldable pub last_state : Builder → Builder
last_state s = elim s.pending.restarts [ zero ↦ s | suc n ↦ closed_state s (last_of s) ]

-- both last keys' arrays are whole
pub record Whole (s : Builder) : Type 0 where
  pub pending : length s.pending.last ≡ 1032
  pub indexed : length s.indexed.last ≡ 1032

-- what the finished table's size is reckoned from in a state
unfoldable pub sizes_in : Builder → Sizes
sizes_in s = record { written = s.written; index = count_size (count_in s.indexed); filters = filters_in s }

-- ---- an addition

-- the refusals 6, 2 and 3 of a state, runs of such lengths, and an addition that fits or does not; else 0
unfoldable pub early_of : Builder → Lengths → Bool → ℕ
early_of s l fits = cond s.finished 6 (cond (sane s l) (cond fits 0 3) 2)

-- what is said of a refusal by its number, or that there is none: 0
abbrev pub unless : ℕ → Result (Unit {0}) Why.Refusal
unless zero = Ok tt
unless (suc n) = Err (refusal (suc n))

-- a key is above the last one of the open block
unfoldable pub above_last : Builder → List ℕ → Bool
above_last s key = cond (eqb s.pending.restarts 0) true (below (last_of s) key)

-- the open block is over the block size
unfoldable pub cut_of : Builder → Bool
cut_of s = ltb s.options.block_size (open_size s)

-- the key it is then indexed under, before a key
unfoldable pub sep_of : Builder → List ℕ → List ℕ
sep_of s key = separator (last_of s) key

-- the state after a cut before a key, if there is one
unfoldable pub mid_of : Builder → List ℕ → Builder
mid_of s key = cond (cut_of s) (closed_state s (sep_of s key)) s

-- the state with an entry more
unfoldable pub next_of : Builder → List ℕ → ℕ → Builder
next_of s key value = entered_state (mid_of s key) key value

-- a state that a table within the room can have
unfoldable pub fits_of : Builder → Lengths → Bool
fits_of s l = sane s l && (small s && leb (finished_size (options_of s.options) (counts_in s)) (room_of l.out))

-- what is decided of an entry: 4, 5, or 0
unfoldable pub decide_of : Builder → Lengths → List ℕ → ℕ → ℕ
decide_of s l key value = cond (small s) (cond (above_last s key) (cond (fits_of (next_of s key value) l) 0 5) 4) 5

-- the number of a refusal that is answered, else 0
abbrev pub said : {A : Type 0} → Result A Why.Refusal → ℕ
said (Ok a) = 0
said (Err e) = number e

-- a state of such runs, and an entry within the limits
pub record Ready (s : Builder) (l : Lengths) (k v : ℕ) : Type 0 where
  pub sound : sane s l ≡ true
  pub key : k ≤ 1032
  pub value : v ≤ 32768

-- deciding answers r, and leaves the state after
pub record DecidedIs (s : Builder) (l : Lengths) (key : List ℕ) (value : ℕ) (r : Result Plan Why.Refusal) (after : Builder) : Type 0 where
  pub kind : (e : Why.Refusal) → r ≡ Err e → (e ≡ Order) ⊎ (e ≡ Full)
  pub answer : Whole (next_of s key value) → said r ≡ decide_of s l key value
  pub cut : (p : Plan) → r ≡ Ok p → p.cut ≡ cut_of s
  pub waiting : (p : Plan) → r ≡ Ok p → p.waiting ≡ (mid_of s key).waiting
  pub next : (p : Plan) → r ≡ Ok p → after ≡ next_of s key value

-- the block that is open after a cut, if there is one
unfoldable pub open_after : Bool → Builder → BlockBuilder
open_after cut s = cond cut (new_builder s.options.interval) s.pending

-- ---- the end

-- the filters at the end
unfoldable pub last_filters : Builder → FilterCount
last_filters s = count_last (choice_of s.options.filter) (filter_count_in (filters_in (last_state s)))

-- the finished table fits its output, and all that it is written from its runs
unfoldable pub endable : Builder → Lengths → Bool
endable s l =
    leb (finished_size (options_of s.options) (counts_in s)) l.out
    && (leb (last_filters s).bytes l.filters && (leb (last_filters s).made l.offsets && leb (last_state s).indexed.bytes l.index))

-- deciding of a finish answers r, and leaves the state after
pub record EndingIs (s : Builder) (l : Lengths) (r : Result Ending Why.Refusal) (after : Builder) : Type 0 where
  pub kind : (e : Why.Refusal) → r ≡ Err e → e ≡ Full
  pub answer : Whole s → said r ≡ cond (small s && endable s l) 0 5
  pub size : (p : Ending) → r ≡ Ok p → Whole s → p.size ≡ finished_size (options_of s.options) (counts_in s)
  pub small : (p : Ending) → r ≡ Ok p → Small s
  pub last : (p : Ending) → r ≡ Ok p → after ≡ last_state s
  pub sizes : (p : Ending) → r ≡ Ok p → filter_count_in p.sizes ≡ last_filters s
  pub within : (p : Ending) → r ≡ Ok p → (p.sizes.bytes ≤ l.filters) × ((p.sizes.made ≤ l.offsets) × (after.indexed.bytes ≤ l.index))

-- What a builder's state holds, as the definitions name it.
use Rattle.std.specs.Prelude.{ℕ, ◌+◌, ◌/◌, ◌≤◌, ◌≡◌, List, Bool, false, ◌&&◌, eqb, leb, length}
use Rattle.block_builder.specs.Builder.{count_in, new_builder}
use Rattle.filters.specs.FilterBlock.{Filtering}
use Rattle.bloom.specs.Choice.{choice_of}
use Rattle.table.specs.Options.{Options, index_interval, options_fit, empty_size}
use Rattle.table.specs.Build.{Building}
use Rattle.table.specs.Checked.{pass}
use Rattle.table.specs.Runs.{Runs, room_of, start_of, between, overlaid}
use Rattle.table.specs.Counts.{Counts, counts_of}
use Rattle.builder.specs.declared.table_builder.Options as Given
use Rattle.builder.specs.declared.table_builder.Lengths.{Lengths}
use Rattle.builder.specs.declared.table_builder.Runs as Lent
use Rattle.builder.specs.declared.table_builder.Builder.{Builder}

-- options
unfoldable pub options_of : Given.Options → Options
options_of o = record { interval = o.interval; block_size = o.block_size; filtering = choice_of o.filter }

-- the counts
unfoldable pub counts_in : Builder → Counts
counts_in s =
    record {
      written = s.written;
      open_block = count_in s.pending;
      index = count_in s.indexed;
      filters = record { bytes = s.filtered; made = s.made; waiting = s.waiting };
    }

-- the lengths of seven runs
unfoldable pub lengths_of : Runs → Lengths
lengths_of r =
    record {
      out = length r.out;
      index = length r.index;
      filters = length r.filters;
      restarts = length r.restarts;
      index_restarts = length r.index_restarts;
      offsets = length r.offsets;
      hashes = length r.hashes;
    }

-- seven runs
abbrev pub seven : List ℕ → List ℕ → List ℕ → List ℕ → List ℕ → List ℕ → List ℕ → Runs
seven out index filters restarts index_restarts offsets hashes =
    record { out = out; index = index; filters = filters; restarts = restarts; index_restarts = index_restarts; offsets = offsets; hashes = hashes }

-- what the lent runs hold
abbrev pub lent : Lent.Runs → Runs
lent r = seven r.out.now r.index.now r.filters.now r.restarts.now r.index_restarts.now r.offsets.now r.hashes.now

-- runs of such lengths are long enough to start with
unfoldable pub runs_fit : Filtering → Lengths → Bool
runs_fit c l =
    let room = room_of l.out in
    leb (empty_size c) l.out
    && ((leb room l.index && leb room l.filters)
    && ((leb (room / 4) l.restarts && leb (room / 4) l.index_restarts) && (leb (room / 4) l.offsets && leb (room / 4) l.hashes)))

-- the same seven lengths
unfoldable pub same_lengths : Lengths → Lengths → Bool
same_lengths a b =
    eqb a.out b.out
    && (eqb a.index b.index
    && (eqb a.filters b.filters
    && (eqb a.restarts b.restarts
    && (eqb a.index_restarts b.index_restarts && (eqb a.offsets b.offsets && eqb a.hashes b.hashes)))))

-- each size is within its run, and both last keys are within their arrays
unfoldable pub sizes_fit : Builder → Lengths → Bool
sizes_fit s l =
    leb (s.written + s.pending.bytes) l.out
    && (leb s.indexed.bytes l.index
    && (leb s.filtered l.filters
    && (leb s.pending.restarts l.restarts
    && (leb s.indexed.restarts l.index_restarts
    && (leb s.made l.offsets && (leb s.waiting l.hashes && (leb s.pending.len 1032 && leb s.indexed.len 1032)))))))

-- a state of runs of such lengths
unfoldable pub sane : Builder → Lengths → Bool
sane s l = same_lengths s.lengths l && (options_fit (options_of s.options) && sizes_fit s l)

-- the state that start gives
unfoldable pub begun : Given.Options → Lengths → Builder
begun o l =
    record {
      options = o;
      lengths = l;
      written = 0;
      pending = new_builder o.interval;
      indexed = new_builder o.interval;
      filtered = 0;
      made = 0;
      waiting = 0;
      finished = false;
    }

-- a state and runs stand for a table being built
pub record Stands (o : Options) (b : Building) (s : Builder) (r : Runs) : Type 0 where
  pub options : options_of s.options ≡ o
  pub counts : counts_in s ≡ counts_of o b
  pub interval : s.pending.interval ≡ o.interval
  pub index_interval : s.indexed.interval ≡ index_interval o
  pub whole : (length s.pending.last ≡ 1032) × (length s.indexed.last ≡ 1032)
  pub short : (s.pending.len ≤ 1032) × (s.indexed.len ≤ 1032)
  pub lengths : s.lengths ≡ lengths_of r
  pub going : s.finished ≡ false
  pub started : start_of o r ≡ pass tt
  pub runs : r ≡ overlaid (between o b) r

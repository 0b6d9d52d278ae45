-- What the builder's seven lent runs hold between calls, and after finish.
use Rattle.std.specs.Prelude.{ℕ, ◌/◌, ◌≤◌, min, List, [], ◌++◌, map, ◌&&◌, leb, length, drop}
use Rattle.blocks.specs.Block.{Pair, packed, restarts_of}
use Rattle.filters.specs.Filter.{hash}
use Rattle.filters.specs.FilterBlock.{Filters, no_filters, wait, last_filter, made_bytes, starts}
use Rattle.table.specs.Checked.{Checked, ask, ◌>>=◌}
use Rattle.table.specs.Options.{Options, index_interval, options_fit, empty_size, table_limit, Addition}
use Rattle.table.specs.Build.{Building, pair_of, written, index_pairs, filters_of, close_last, finish}

-- the seven runs, or what each of them holds
pub record Runs : Type 0 where
  pub out : List ℕ
  pub index : List ℕ
  pub filters : List ℕ
  pub restarts : List ℕ
  pub index_restarts : List ℕ
  pub offsets : List ℕ
  pub hashes : List ℕ

-- the filters of the closed blocks, with the open block's words waiting
unfoldable pub filters_now : Options → Building → Filters
filters_now o b = wait (map (λ (a : Addition). hash a.word) b.open_block) (filters_of o 0 no_filters b.closed)

-- a block's entry bytes, at an interval
unfoldable pub entries_of : ℕ → List Pair → List ℕ
entries_of i ps = packed i i [] ps

-- and its restarts
unfoldable pub restarts_in : ℕ → List Pair → List ℕ
restarts_in i ps = restarts_of i i [] 0 ps

-- what filters, closed blocks and an open block leave in the runs, behind some output
unfoldable pub held : Options → List ℕ → Building → Filters → Runs
held o out b f =
    record {
      out = out;
      index = entries_of (index_interval o) (index_pairs o 0 b.closed);
      filters = made_bytes o.filtering f.made;
      restarts = restarts_in o.interval (map pair_of b.open_block);
      index_restarts = restarts_in (index_interval o) (index_pairs o 0 b.closed);
      offsets = starts o.filtering 0 f.made;
      hashes = f.waiting;
    }

-- between calls: the blocks already written and then the entry bytes of the open one
unfoldable pub between : Options → Building → Runs
between o b = held o (written o b.closed ++ entries_of o.interval (map pair_of b.open_block)) b (filters_now o b)

-- after finish: the table, with the last block and filter closed
unfoldable pub finished : Options → Building → Runs
finished o b = held o (finish o b) (close_last b) (last_filter (filters_of o 0 no_filters (close_last b).closed))

-- some bytes at the front of a run, the rest unchanged
unfoldable pub overlay : List ℕ → List ℕ → List ℕ
overlay d r = d ++ drop (length d) r

-- the same of all seven
unfoldable pub overlaid : Runs → Runs → Runs
overlaid d r =
    record {
      out = overlay d.out r.out;
      index = overlay d.index r.index;
      filters = overlay d.filters r.filters;
      restarts = overlay d.restarts r.restarts;
      index_restarts = overlay d.index_restarts r.index_restarts;
      offsets = overlay d.offsets r.offsets;
      hashes = overlay d.hashes r.hashes;
    }

-- what the runs hold fits what start asks for in a room
pub record FitsRoom (room : ℕ) (d : Runs) : Type 0 where
  pub out : length d.out ≤ room
  pub index : length d.index ≤ room
  pub filters : length d.filters ≤ room
  pub restarts : length d.restarts ≤ room / 4
  pub index_restarts : length d.index_restarts ≤ room / 4
  pub offsets : length d.offsets ≤ room / 4
  pub hashes : length d.hashes ≤ room / 4

-- the room of an output: no more than the limit
unfoldable pub room_of : ℕ → ℕ
room_of n = min table_limit n

-- start: 1 and 2
unfoldable pub start_of : Options → Runs → Checked (Unit {0})
start_of o r = do
  let room = room_of (length r.out)
  _ ← ask 1 (options_fit o)
  _ ← ask 2 (leb (empty_size o.filtering) (length r.out))
  _ ← ask 2 (leb room (length r.index) && leb room (length r.filters))
  _ ← ask 2 (leb (room / 4) (length r.restarts) && leb (room / 4) (length r.index_restarts))
  ask 2 (leb (room / 4) (length r.offsets) && leb (room / 4) (length r.hashes))

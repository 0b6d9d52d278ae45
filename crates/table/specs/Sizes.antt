-- What is promised of sizes while a table is built.
use Rattle.std.specs.Prelude.{ℕ, ◌≤◌, ◌≡◌, List, T, length}
use Rattle.table.specs.Checked.{pass}
use Rattle.table.specs.Options.{Options, options_fit, empty_size, Addition}
use Rattle.table.specs.Build.{Building, begin, add, key_of, finish, accept_all}
use Rattle.table.specs.Runs.{FitsRoom, between, finished}
use Rattle.table.specs.Counts.{counts_of, no_counts, count_add, finished_size}

-- the counts of a table of nothing
abbrev pub counts_begin : Type 0
counts_begin = (o : Options) → counts_of o begin ≡ no_counts o

-- an addition moves the counts, whatever was added before
abbrev pub counts_add : Type 0
counts_add = (o : Options) (b : Building) (a : Addition) → counts_of o (add o b a) ≡ count_add o (counts_of o b) (key_of a) (length a.value)

-- and they tell the finished table's size, for refusal 5
abbrev pub size_finished : Type 0
size_finished = (o : Options) (b : Building) → length (finish o b) ≡ finished_size o (counts_of o b)

-- where the empty table fits the room, and additions were accepted in it, all that the runs hold fits
abbrev pub runs_suffice : Type 0
runs_suffice = (o : Options) (room : ℕ) (more : List Addition) (b : Building) → T (options_fit o) → empty_size o.filtering ≤ room
    → accept_all o room begin more ≡ pass b → FitsRoom room (between o b) × FitsRoom room (finished o b)

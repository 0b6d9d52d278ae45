-- What the block builder's functions answer and leave in the lent runs, for every builder at all.
use Rattle.std.specs.Prelude.{ℕ, ◌+◌, ◌^◌, ◌≡◌, List, [], ◌∷◌, Bool, ◌&&◌, cond, eqb, leb, ltb, length, take, replicate, Result, Ok, Err}
use Rattle.codec.specs.Bytes.{part}
use Rattle.codec.specs.Put.{room, put}
use Rattle.codec.specs.declared.put.NoRoom.{NoRoom}
use Rattle.block_builder.specs.declared.block_builder.BlockBuilder.{BlockBuilder}
use Rattle.block_builder.specs.declared.block_builder.Counts.{Counts}
use Rattle.blocks.specs.Block.{Pair, sharing, entry_bytes, packed, restarts_of}
use Rattle.blocks.specs.Count.{BlockCount, count_of, count_entry}

-- the counts that a builder holds
unfoldable pub count_in : BlockBuilder → BlockCount
count_in b = record { bytes = b.bytes; restarts = b.restarts; since = b.since; last = take b.len b.last }

-- and those that were taken of one
abbrev pub count_taken : Counts → BlockCount
count_taken c = record { bytes = c.bytes; restarts = c.restarts; since = c.since; last = c.last.now }

-- the builder of no entries
unfoldable pub new_builder : ℕ → BlockBuilder
new_builder i = record { interval = i; bytes = 0; restarts = 0; since = i; len = 0; last = replicate 1032 0 }

-- the builder with counts, after a key
unfoldable pub builder_with : BlockBuilder → BlockCount → List ℕ → BlockBuilder
builder_with b c key =
    record { interval = b.interval; bytes = c.bytes; restarts = c.restarts; since = c.since; len = length key; last = put b.last 0 key }

-- the builder with one entry more
unfoldable pub builder_after : BlockBuilder → List ℕ → ℕ → BlockBuilder
builder_after b key value = builder_with b (count_entry b.interval (count_in b) key value) key

-- counts of 64 bits
unfoldable pub counts_fit : BlockCount → Bool
counts_fit c = ltb c.bytes (2 ^ 64) && (ltb c.restarts (2 ^ 64) && ltb c.since (2 ^ 64))

-- an entry can be counted at interval i after some counts: its key has at most 1,032 bytes, and the counts with it have 64 bits
unfoldable pub countable_after : ℕ → BlockCount → List ℕ → ℕ → Bool
countable_after i b key value = leb (length key) 1032 && counts_fit (count_entry i b key value)

-- and after the counts that a builder holds
abbrev pub countable : BlockBuilder → List ℕ → ℕ → Bool
countable b key value = countable_after b.interval (count_in b) key value

-- the answer: that an entry fits, or that there is no room
abbrev pub fit_answer : Bool → Result (Unit {0}) NoRoom
fit_answer fits = cond fits (Ok tt) (Err (record {}))

-- counting an entry answers r and leaves the builder b'
pub record CountedIs (b : BlockBuilder) (key : List ℕ) (value : ℕ) (r : Result (Unit {0}) NoRoom) (b' : BlockBuilder) : Type 0 where
  pub fits : r ≡ fit_answer (countable b key value)
  pub block : b' ≡ cond (countable b key value) (builder_after b key value) b

-- the next entry is a restart
unfoldable pub is_restart : BlockBuilder → Bool
is_restart b = eqb b.since b.interval

-- the next entry's bytes
unfoldable pub next_bytes : BlockBuilder → List ℕ → List ℕ → List ℕ
next_bytes b key value = entry_bytes (sharing b.interval b.since (take b.len b.last) key) (record { key = key; value = value })

-- the next restart, if it is one
unfoldable pub next_restart : BlockBuilder → List ℕ
next_restart b = cond (is_restart b) (b.bytes ∷ []) []

-- an entry fits: it can be counted, both runs have room, and a restart has 32 bits
unfoldable pub addable : BlockBuilder → ℕ → List ℕ → List ℕ → List ℕ → List ℕ → Bool
addable b at out restarts key value =
    countable b key (length value)
    && (room out (at + b.bytes) (next_bytes b key value) && (room restarts b.restarts (next_restart b) && ltb b.bytes (2 ^ 32)))

-- adding an entry to the block at a place of out answers r and leaves both runs and the builder so
pub record AddedIs (b : BlockBuilder) (at : ℕ) (out out' restarts restarts' key value : List ℕ) (r : Result (Unit {0}) NoRoom) (b' : BlockBuilder) : Type 0 where
  pub fits : r ≡ fit_answer (addable b at out restarts key value)
  pub block : b' ≡ cond (addable b at out restarts key value) (builder_after b key (length value)) b
  pub written : out' ≡ cond (addable b at out restarts key value) (put out (at + b.bytes) (next_bytes b key value)) out
  pub marked : restarts' ≡ cond (addable b at out restarts key value) (put restarts b.restarts (next_restart b)) restarts

-- ---- building a block of pairs

-- a builder holds the counts of a block of pairs at interval i
pub record Counting (i : ℕ) (ps : List Pair) (b : BlockBuilder) : Type 0 where
  pub every : b.interval ≡ i
  pub counts : count_in b ≡ count_of i ps
  pub whole : length b.last ≡ 1032

-- and its entries' bytes stand at a place of out, its restarts at the front of theirs
pub record Stands (i : ℕ) (ps : List Pair) (b : BlockBuilder) (at : ℕ) (out restarts : List ℕ) : Type 0 where
  pub counting : Counting i ps b
  pub entries : part out at b.bytes ≡ packed i i [] ps
  pub marks : take b.restarts restarts ≡ restarts_of i i [] 0 ps

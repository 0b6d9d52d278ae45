-- What the block builder decides before it writes: how an entry is written and what the counts are after it.
use Rattle.std.specs.Prelude.{ℕ, ◌+◌, ◌-◌, ◌^◌, min, List, Bool, ◌&&◌, cond, leb, ltb, Result, Ok, Err}
use Rattle.codec.specs.declared.put.NoRoom.{NoRoom}
use Rattle.block_builder.specs.declared.block_builder.Plan.{Plan}
use Rattle.blocks.specs.Block.{sharing}
use Rattle.blocks.specs.Count.{BlockCount, count_entry, count_size}
use Rattle.block_builder.specs.Builder.{countable_after}

-- the entry of a key and a value of so many bytes, at interval i after some counts: what it shares and the counts with it, where it can be counted
unfoldable pub plan_of : ℕ → BlockCount → List ℕ → ℕ → Result Plan NoRoom
plan_of i b key value =
    let c = count_entry i b key value in
    cond (countable_after i b key value)
    (Ok (record { shared = sharing i b.since b.last key; bytes = c.bytes; restarts = c.restarts; since = c.since }))
    (Err (record {}))

-- the size of the block with that entry, held at the largest number; and that where it cannot be counted
unfoldable pub size_with : ℕ → BlockCount → List ℕ → ℕ → ℕ
size_with i b key value = cond (countable_after i b key value) (min (2 ^ 64 - 1) (count_size (count_entry i b key value))) (2 ^ 64 - 1)

-- both runs have room up to the new counts, and a restart has 32 bits
unfoldable pub room_for : ℕ → ℕ → ℕ → ℕ → ℕ → ℕ → Bool
room_for size at bytes marks restarts mark = leb (at + bytes) size && (leb restarts marks && ltb mark (2 ^ 32))

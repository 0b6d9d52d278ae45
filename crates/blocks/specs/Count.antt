-- The sizes of a block being built, in numbers and its last key alone: what code keeps of it, and how an entry moves them.
use Rattle.std.specs.Prelude.{ℕ, suc, ◌+◌, ◌*◌, ◌-◌, max, List, [], true, false, eqb, length}
use Rattle.codec.specs.Varint.{varint_bytes}
use Rattle.blocks.specs.Block.{Pair, last_key_of, sharing, since, since_all, packed, restarts_of}

-- its entry bytes, its restarts, the entries since the last restart, and the last key
pub record BlockCount : Type 0 where
  pub bytes : ℕ
  pub restarts : ℕ
  pub since : ℕ
  pub last : List ℕ

-- the counts of a block of pairs at interval i
unfoldable pub count_of : ℕ → List Pair → BlockCount
count_of i ps =
    record {
      bytes = length (packed i i [] ps);
      restarts = length (restarts_of i i [] 0 ps);
      since = since_all i i ps;
      last = last_key_of [] ps;
    }

-- of no entries
unfoldable pub no_entries : ℕ → BlockCount
no_entries i = record { bytes = 0; restarts = 0; since = i; last = [] }

-- the bytes of a varint
abbrev pub varint_size : ℕ → ℕ
varint_size x = length (varint_bytes x)

-- the bytes of an entry, whose key shares so much with the key before
unfoldable pub entry_size : ℕ → ℕ → ℕ → ℕ
entry_size shared key value =
    varint_size shared + varint_size (key - shared) + varint_size value + (key - shared) + value

-- one entry more, with a value of so many bytes
unfoldable pub count_entry : ℕ → BlockCount → List ℕ → ℕ → BlockCount
count_entry i b key value =
    record {
      bytes = b.bytes + entry_size (sharing i b.since b.last key) (length key) value;
      restarts = elim (eqb b.since i) [ true ↦ suc b.restarts | false ↦ b.restarts ];
      since = since i b.since;
      last = key;
    }

-- the block's bytes: its entries, 4 for each restart, of which there is one at least, and 4 for their count
unfoldable pub count_size : BlockCount → ℕ
count_size b = b.bytes + 4 * max 1 b.restarts + 4

-- Bytes written at a place of a list, all of them or, where they do not fit, none.
use Rattle.std.specs.Prelude.{ℕ, ◌+◌, ◌≡◌, Bool, cond, List, ◌++◌, leb, length, take, drop}
use Rattle.std.specs.Prelude.{Result, Ok, Err}
use Rattle.codec.specs.declared.put.NoRoom.{NoRoom}

-- d has room for bs at a place
unfoldable pub room : List ℕ → ℕ → List ℕ → Bool
room d at bs = leb (at + length bs) (length d)

-- d with bs at a place, all else as it was; without room d as it was
unfoldable pub put : List ℕ → ℕ → List ℕ → List ℕ
put d at bs = cond (room d at bs) (take at d ++ bs ++ drop (at + length bs) d) d

-- there is no room
abbrev pub no_room : Result ℕ NoRoom
no_room = Err (record {})

-- the answer: the place after bs, or that there is no room
unfoldable pub put_answer : List ℕ → ℕ → List ℕ → Result ℕ NoRoom
put_answer d at bs = cond (room d at bs) (Ok (at + length bs)) no_room

-- writing bs at a place of d answers r and leaves e
pub record Wrote (d : List ℕ) (at : ℕ) (bs : List ℕ) (r : Result ℕ NoRoom) (e : List ℕ) : Type 0 where
  pub said : r ≡ put_answer d at bs
  pub left : e ≡ put d at bs

-- What making filters writes into the lent runs, and answers.
use Rattle.std.specs.Prelude.{ℕ, ◌+◌, ◌-◌, ◌^◌, ◌≡◌, ◌≤◌, ◌<◌, Result, Ok, Err, List, [], ◌∷◌, Bool, true, false, ◌&&◌, cond, leb, length, replicate}
use Rattle.codec.specs.Put.{put, room}
use Rattle.filter_block.specs.declared.filter_block.Made.{Made}
use Rattle.codec.specs.declared.put.NoRoom.{NoRoom}
use Rattle.filters.specs.FilterBlock.{Filtering, made_bytes, starts}

-- the hashes of each filter made, from so many on until there are n
unfoldable pub groups_up_to : ℕ → ℕ → List ℕ → List (List ℕ)
groups_up_to made n hs = elim (leb n made) [ true ↦ [] | false ↦ hs ∷ replicate (n - made - 1) [] ]

-- their bytes fit the run of filters, their starts the run of offsets, and each start 32 bits
unfoldable pub room_for : Filtering → ℕ → List (List ℕ) → List ℕ → List ℕ → ℕ → Bool
room_for c bytes gs filters offsets made =
    room filters bytes (made_bytes c gs) && (room offsets made (starts c bytes gs) && leb (bytes + length (made_bytes c gs)) (2 ^ 32 - 1))

-- how many bytes the filters then have and how many there are, or that there is no room
unfoldable pub made_answer : Filtering → ℕ → List (List ℕ) → List ℕ → List ℕ → ℕ → Result Made NoRoom
made_answer c bytes gs filters offsets made =
    cond (room_for c bytes gs filters offsets made) (Ok (record { bytes = bytes + length (made_bytes c gs); made = made + length gs })) (Err (record {}))

-- making filters of some hashes each, behind so many bytes and so many filters, answers r and leaves both runs so
pub record MadeFilters (c : Filtering) (gs : List (List ℕ)) (bytes made : ℕ) (r : Result Made NoRoom) (f f' o o' : List ℕ) : Type 0 where
  pub said : r ≡ made_answer c bytes gs f o made
  pub filters : f' ≡ cond (room_for c bytes gs f o made) (put f bytes (made_bytes c gs)) f
  pub offsets : o' ≡ cond (room_for c bytes gs f o made) (put o made (starts c bytes gs)) o

-- more bytes behind some in a run of so many, more starts likewise, and each start 32 bits
pub record Fitting (room bytes more slots made count : ℕ) : Type 0 where
  pub in_run : bytes + more ≤ room
  pub in_slots : made + count ≤ slots
  pub small : bytes + more < 2 ^ 32

-- the counts with these, or that they do not fit
abbrev pub Counted : ℕ → ℕ → ℕ → ℕ → ℕ → ℕ → Result Made NoRoom → Type 0
Counted room bytes more slots made count (Ok m) = Fitting room bytes more slots made count × (m.bytes ≡ bytes + more) × (m.made ≡ made + count)
Counted room bytes more slots made count (Err e) = Fitting room bytes more slots made count → ⊥

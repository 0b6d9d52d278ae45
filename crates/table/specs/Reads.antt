-- What seek, lookup and step answer, and what they leave in the key buffer.
use Rattle.std.specs.Prelude.{ℕ, ◌+◌, ◌≤◌, ◌<◌, ◌^◌, ◌≡◌, List, Bool, true, false, ◌&&◌, ◌||◌, T, eqb, ltb, leb, length}
use Rattle.std.proofs.Math.Option.{Option, none, some}
use Rattle.keys.specs.Order.{Point, kind_of}
use Rattle.table.specs.Checked.{refuse}
use Rattle.codec.specs.Limits.{within}
use Rattle.table.specs.Table.{footer, plain, Found}
use Rattle.table.specs.Promise.{Passed, seek_of, lookup_of, after}
use Rattle.table.specs.Runs.{overlay}

-- an answer: a refusal's number, none or absent, an entry, or an entry that is a deletion
pub data Answer : Type 0 where
  refused : ℕ → Answer
  nothing : Answer
  found : Found → Answer
  deleted : Found → Answer

-- a word of 1 to 1,024 bytes and an edition below 2 ^ 56
unfoldable pub point_fits : Point → Bool
point_fits p = within 1 1024 (length p.word) && ltb p.edition (2 ^ 56)

-- ---- on a passed table

-- an entry found, or none
unfoldable pub found_or : Option Found → Answer
found_or none = nothing
found_or (some x) = found x

-- what a seek says
unfoldable pub seek_says : List ℕ → Point → Answer
seek_says t p = found_or (seek_of t p)

-- kind byte 0 is a deletion, any other a value
unfoldable pub by_kind : Option Found → Answer
by_kind none = nothing
by_kind (some x) = elim (eqb (kind_of x.key) 0) [ true ↦ deleted x | false ↦ found x ]

-- what a lookup says
unfoldable pub lookup_says : List ℕ → Point → Answer
lookup_says t p = by_kind (lookup_of t p)

-- what a step says: 14 where no entry has the place
unfoldable pub step_says : List ℕ → ℕ → ℕ → Answer
step_says t ix at = elim (after ix at (plain t)) [ none ↦ refused 14 | some o ↦ found_or o ]

-- ---- on any table

-- the key at the front of the key buffer, the rest as it was; without an entry all as it was
unfoldable pub buffer_after : Answer → List ℕ → List ℕ
buffer_after (refused n) k = k
buffer_after nothing k = k
buffer_after (found x) k = overlay x.key k
buffer_after (deleted x) k = overlay x.key k

-- the listed exception: on a refused table 7, 8, 10, 14, none, absent, deleted or an entry, whose value lies in the table
unfoldable pub listed : List ℕ → Answer → Bool
listed t (refused n) = eqb n 7 || (eqb n 8 || (eqb n 10 || eqb n 14))
listed t nothing = true
listed t (found x) = leb (x.value_at + length x.value) (length t) && leb (length x.key) 1032
listed t (deleted x) = leb (x.value_at + length x.value) (length t) && leb (length x.key) 1032

-- an answer about a table: the footer's refusals, what a passed table says, and else the listed exception
pub record Of (t : List ℕ) (says : Answer) (a : Answer) : Type 0 where
  pub footed : (n : ℕ) → footer t ≡ refuse n → a ≡ refused n
  pub passed : Passed t → a ≡ says
  pub other : T (listed t a)

-- seek and lookup: 3, 2, then the table
pub record Sought (t : List ℕ) (p : Point) (says : Answer) (k : List ℕ) (a : Answer) (k' : List ℕ) : Type 0 where
  pub three : point_fits p ≡ false → a ≡ refused 3
  pub two : point_fits p ≡ true → length k < 1032 → a ≡ refused 2
  pub table : point_fits p ≡ true → 1032 ≤ length k → Of t says a
  pub buffer : k' ≡ buffer_after a k

-- step: 2, then the table
pub record Stepped (t : List ℕ) (says : Answer) (k : List ℕ) (a : Answer) (k' : List ℕ) : Type 0 where
  pub two : length k < 1032 → a ≡ refused 2
  pub table : 1032 ≤ length k → Of t says a
  pub buffer : k' ≡ buffer_after a k

-- A walk by the calls' contracts alone: a seek, and then steps until there is none.
use Rattle.std.specs.Prelude.{ℕ, ◌-◌, ◌≤◌, ◌<◌, ◌^◌, ◌≡◌, List, [], ◌∷◌, map, true, false, length, take, get_or, None, Some, Ok, Err}
use Rattle.keys.specs.Order.{Point}
use Rattle.table.specs.Table.{Found, plain}
use Rattle.table.specs.Promise.{Passed, not_below}
use Rattle.table.specs.Reads.{point_fits}
use Rattle.reader.specs.declared.table_reader.Entry.{Entry}
use Rattle.table_block.specs.declared.refusal.Refusal.{Refusal}
use Rattle.reader.specs.Answers.{entry_of, Sought, Seeks, Steps}

-- what a call shows of an entry: its numbers, and the key at the front of the key buffer
pub record Visit : Type 0 where
  pub entry : Entry
  pub key : List ℕ

-- an entry of the plain reading, as a call shows it
unfoldable pub visit_of : Found → Visit
visit_of x = record { entry = entry_of x; key = x.key }

-- steps from an answer and a key buffer on, until there is none or one is refused; what they show, and the last answer
pub data Walk (t : List ℕ) : Sought → List ℕ → List Visit → Sought → Type 0 where
  done : {k : List ℕ} → Walk t (Ok None) k [] (Ok None)
  stuck : {e : Refusal} {k : List ℕ} → Walk t (Err e) k [] (Err e)
  more : {e : Entry} {k k' : List ℕ} {r last : Sought} {vs : List Visit} → Steps t e.place.index e.place.entry k r k' → Walk t r k' vs last
      → Walk t (Ok (Some e)) k (record { entry = e; key = take e.key_len k } ∷ vs) last

-- the entries from the first that is not below a point on
unfoldable pub onward : Point → List Found → List Found
onward p [] = []
onward p (x ∷ xs) = elim (not_below p x) [ true ↦ x ∷ xs | false ↦ onward p xs ]

-- of a passed table: a walk from a seek on shows the plain reading from the point on, in order, and ends where there is none: no step of it is refused
abbrev pub walk_means : Type 0
walk_means = (t : List ℕ) → Passed t → (p : Point) (k : List ℕ) → point_fits p ≡ true → 1032 ≤ length k
    → (r : Sought) (k' : List ℕ) → Seeks t p k r k' → (vs : List Visit) (last : Sought) → Walk t r k' vs last
    → (vs ≡ map visit_of (onward p (plain t))) × (last ≡ Ok None)

-- the least point: a word of one byte 0, at the greatest edition
unfoldable pub least_point : Point
least_point = record { word = 0 ∷ []; edition = 2 ^ 56 - 1 }

-- of a passed table, which has bytes: from the least point on is all of it
abbrev pub whole_walk : Type 0
whole_walk = (t : List ℕ) → ((i : ℕ) → get_or t i 0 < 256) → Passed t → onward least_point (plain t) ≡ plain t

-- What is promised of every table.
use Rattle.std.specs.Prelude.{ℕ, ◌≤◌, ◌≡◌, ◌↔◌, Bool, true, false, ◌&&◌, not, length, T, eqb, leb}
use mathlib.Core.List.{List, [], ◌∷◌, ◌++◌, map, head?, Memᴰ}
use Rattle.std.proofs.Math.Option.{Option, none, some}
use Rattle.codec.specs.Bytes.{same_bytes, part}
use Rattle.codec.specs.Maybe.{first}
use Rattle.keys.specs.Order.{user_of, seq_of, kind_of, Point, point_of, by_point, below, is_less}
use Rattle.table.specs.Checked.{pass}
use Rattle.table.specs.Options.{Options, options_fit, Addition, table_limit}
use Rattle.table.specs.Table.{full_check, plain, Found}
use Rattle.table.specs.Build.{begin, accept_all, finish, Building}

-- the full check passes
abbrev pub Passed : List ℕ → Type 0
Passed t = full_check t ≡ pass tt

-- ---- seek, lookup and step, of the plain reading

-- an entry is not below a target
unfoldable pub not_below : Point → Found → Bool
not_below p x = not (is_less (by_point (point_of x.key) p))

-- seek: the first entry not below a target
unfoldable pub seek_of : List ℕ → Point → Option Found
seek_of t p = first (not_below p) (plain t)

-- an entry of a target's word that its edition sees
unfoldable pub is_for : Point → Found → Bool
is_for p x = same_bytes (user_of x.key) p.word && leb (seq_of x.key) p.edition

-- lookup: the first such entry
unfoldable pub lookup_of : List ℕ → Point → Option Found
lookup_of t p = first (is_for p) (plain t)

-- an entry has a place
unfoldable pub is_at : ℕ → ℕ → Found → Bool
is_at ix at x = eqb x.index_start ix && eqb x.start at

-- step: what comes after the entry at a place; nothing, that is 14, where no entry has it
unfoldable pub after : ℕ → ℕ → List Found → Option (Option Found)
after ix at [] = none
after ix at (x ∷ xs) = elim (is_at ix at x) [ true ↦ some (head? xs) | false ↦ after ix at xs ]

-- ---- what the three mean

-- x is the least entry not below a target
pub record Least (t : List ℕ) (p : Point) (x : Found) : Type 0 where
  pub stands : Memᴰ x (plain t)
  pub reaches : T (not_below p x)
  pub least : (y : Found) → Memᴰ y (plain t) → T (not_below p y) → T (not (below y.key x.key))

-- x is the newest entry of a target's word that its edition sees
pub record Newest (t : List ℕ) (p : Point) (x : Found) : Type 0 where
  pub stands : Memᴰ x (plain t)
  pub is_word : user_of x.key ≡ p.word
  pub not_newer : seq_of x.key ≤ p.edition
  pub newest : (y : Found) → Memᴰ y (plain t) → user_of y.key ≡ p.word → seq_of y.key ≤ p.edition → seq_of y.key ≤ seq_of x.key

-- of a passed table: seek gives x just where x is that entry
abbrev pub seek_means : Type 0
seek_means = (t : List ℕ) (p : Point) → Passed t → (x : Found) → (seek_of t p ≡ some x) ↔ Least t p x

-- and lookup likewise
abbrev pub lookup_means : Type 0
lookup_means = (t : List ℕ) (p : Point) → Passed t → (x : Found) → (lookup_of t p ≡ some x) ↔ Newest t p x

-- seek gives none just where every entry is below the target
abbrev pub seek_none : Type 0
seek_none = (t : List ℕ) (p : Point) → (seek_of t p ≡ none) ↔ ((x : Found) → Memᴰ x (plain t) → T (not (not_below p x)))

-- and lookup just where no entry is of the word and no newer than the edition
abbrev pub lookup_none : Type 0
lookup_none = (t : List ℕ) (p : Point) → (lookup_of t p ≡ none)
    ↔ ((x : Found) → Memᴰ x (plain t) → user_of x.key ≡ p.word → seq_of x.key ≤ p.edition → ⊥)

-- of a passed table: each entry is below every later one
abbrev pub entries_rise : Type 0
entries_rise = (t : List ℕ) → Passed t → (bs : List Found) (x : Found) (cs : List Found) (y : Found) (ds : List Found)
    → plain t ≡ bs ++ (x ∷ (cs ++ (y ∷ ds))) → T (below x.key y.key)

-- of any table: no two entries have one place
abbrev pub places_differ : Type 0
places_differ = (t : List ℕ) (bs : List Found) (x : Found) (cs : List Found) (y : Found) (ds : List Found)
    → plain t ≡ bs ++ (x ∷ (cs ++ (y ∷ ds))) → T (not (is_at y.index_start y.start x))

-- of any table: from each entry's place to the entry after it
abbrev pub after_means : Type 0
after_means = (t : List ℕ) (bs : List Found) (x : Found) (cs : List Found) → plain t ≡ bs ++ (x ∷ cs)
    → after x.index_start x.start (plain t) ≡ some (head? cs)

-- and no answer just where no entry has the place
abbrev pub no_place_means : Type 0
no_place_means = (t : List ℕ) (ix at : ℕ) → (after ix at (plain t) ≡ none) ↔ ((x : Found) → Memᴰ x (plain t) → T (not (is_at ix at x)))

-- of any table: a value is the part of the table at its place
abbrev pub values_stand : Type 0
values_stand = (t : List ℕ) (x : Found) → Memᴰ x (plain t) → x.value ≡ part t x.value_at (length x.value)

-- ---- what is built

-- what was added, by the entry that is read
unfoldable pub addition_of : Found → Addition
addition_of x = record { word = user_of x.key; edition = seq_of x.key; kind = kind_of x.key; value = x.value }

-- some additions are accepted one after the other, and finish to a table
pub record Builds (o : Options) (room : ℕ) (more : List Addition) (t : List ℕ) : Type 0 where
  pub fits : T (options_fit o)
  pub limited : room ≤ table_limit
  pub last : Building
  pub accepts : accept_all o room begin more ≡ pass last
  pub finishes : finish o last ≡ t

-- every finished table passes, and reads plainly as its additions
abbrev pub round_trip : Type 0
round_trip = (o : Options) (room : ℕ) (more : List Addition) (t : List ℕ) → Builds o room more t
    → Passed t × (map addition_of (plain t) ≡ more)

-- so the same bytes are of the same additions, whatever the options
abbrev pub same_bytes_same_additions : Type 0
same_bytes_same_additions = (o o' : Options) (room room' : ℕ) (more more' : List Addition) (t : List ℕ)
    → Builds o room more t → Builds o' room' more' t → more ≡ more'

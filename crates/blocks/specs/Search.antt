-- Reading a block by meaning: its entries, and which of them a search is for.
use Rattle.std.specs.Prelude.{ℕ, Bool, true, not, leb, length}
use mathlib.Core.List.{List, head?}
use Rattle.std.proofs.Math.Option.{Option, some}
use Rattle.codec.specs.Maybe.{◌>>=◌, ask, first}
use Rattle.keys.specs.Order.{Point, point_of, by_point, is_less, below}
use Rattle.blocks.specs.Block.{Pair, Entry, pairs_of, block}
use Rattle.blocks.specs.Formed.{all, rises}

-- the entries of a well-formed block whose keys have at most 1,032 bytes
unfoldable pub readable : List ℕ → Option (List Entry)
readable s = do
  b ← block s
  _ ← ask (all (λ (p : Pair). leb (length p.key) 1032) (pairs_of b.entries))
  some b.entries

-- an entry is not below a target
unfoldable pub reaches : Point → Entry → Bool
reaches p e = not (is_less (by_point (point_of e.key) p))

-- seek: the first entry not below a target
unfoldable pub seek_in : Point → List Entry → Option (Option Entry)
seek_in p es = some (first (reaches p) es)

-- the first entry
unfoldable pub first_in : List Entry → Option (Option Entry)
first_in es = some (head? es)

-- entries that rise
unfoldable pub in_order : List Entry → Bool
in_order es = rises below (pairs_of es)

-- entries in any order
unfoldable pub any_order : List Entry → Bool
any_order es = true

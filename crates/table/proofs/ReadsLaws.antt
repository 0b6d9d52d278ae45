-- What a lookup says of an entry, by its kind byte.
use mathlib.Core.Path.{◌≡◌}
use mathlib.Core.Bool.{true, false}
use mathlib.Core.Option.{some}
use lib.Dec.{eqb}
use Rattle.codec.proofs.Prelude.{test}
use Rattle.keys.specs.Order.{kind_of}
use Rattle.table.specs.Table.{Found}
use Rattle.table.specs.Reads.{Answer, found, deleted, by_kind}

pub by_kind_lem : (P : Answer → Type 0) (x : Found) → (eqb (kind_of x.key) 0 ≡ true → P (deleted x)) → (eqb (kind_of x.key) 0 ≡ false → P (found x)) → P (by_kind (some x))
unfolding by_kind
by_kind_lem P x f g = test (eqb (kind_of x.key) 0) (λ e. rw (e, by_kind) (f e)) (λ e. rw (e, by_kind) (g e))

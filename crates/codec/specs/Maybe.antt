-- Steps that may come to nothing, for `do`: the next one is taken with what a step gives.
use Rattle.std.specs.Prelude.{Bool, true, false, List, [], ◌∷◌}
use Rattle.std.proofs.Math.Option.{Option, none, some}

infixl 10 ◌>>=◌
module _ {A B : Type 0} where
  -- nothing if the step gave nothing, else the next step
  unfoldable pub ◌>>=◌ : Option A → (A → Option B) → Option B
  ◌>>=◌ none f = none
  ◌>>=◌ (some a) f = f a

-- go on where a test passes
unfoldable pub ask : Bool → Option (Unit {0})
ask true = some tt
ask false = none

module _ {A : Type 0} where
  -- the first of a list that passes a test
  unfoldable pub first : (A → Bool) → List A → Option A
  first f [] = none
  first f (x ∷ xs) = elim (f x) [ true ↦ some x | false ↦ first f xs ]

-- Finish of the block at the front of a run.
use Prim.Native.Nat.{ℕ, ◌+◌}
use mathlib.Core.Path.{◌≡◌, subst}
use mathlib.Core.List.{List}
use native.Mathlib.Nat.{zero-add}
use Rattle.codec.specs.Put.{Wrote}
use Rattle.std.specs.Prelude.{Result}
use Rattle.codec.specs.declared.put.NoRoom.{NoRoom}
use Rattle.pieces.specs.Numbers.{size_out, WroteOut}
use Rattle.pieces.specs.declared.numbers.SalevoniSize.{SalevoniSize}

-- what is written at a place of a run, counted from its front
pub from_front : {d e bs : List ℕ} {n : ℕ} {x : Result ℕ NoRoom} {y : SalevoniSize} → Wrote d (0 + n) bs x e → y ≡ size_out x → WroteOut d n bs y e
from_front {d} {e} {bs} {n} {x} is shown =
    record { answer = x; shown = shown; is = subst (λ (m : ℕ). Wrote d m bs x e) (zero-add n) is }

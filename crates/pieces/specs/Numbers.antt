-- Answers in numbers that several functions share.
use Rattle.std.specs.Prelude.{ℕ, ◌≡◌, Bool, cond, List, Result, Ok, Err}
use Rattle.codec.specs.Shown.{Shown}
use Rattle.codec.specs.Put.{Wrote}
use Rattle.codec.specs.declared.put.NoRoom.{NoRoom}
use Rattle.pieces.specs.declared.numbers.SalevoniSize.{SalevoniSize}

-- whether b, in a number: m if so, else n
abbrev pub ToldOut : Bool → ℕ → ℕ → ℕ → Type 0
ToldOut b m n r = Shown (λ x. cond x m n) (λ x. x ≡ b) r

-- 0 and the place after what was written, or 2 without room
abbrev pub size_out : Result ℕ NoRoom → SalevoniSize
size_out (Ok n) = record { answer = 0; size = n }
size_out (Err e) = record { answer = 2; size = 0 }

-- writing bs at a place of d answers r and leaves e
abbrev pub WroteOut : List ℕ → ℕ → List ℕ → SalevoniSize → List ℕ → Type 0
WroteOut d at bs r e = Shown size_out (λ x. Wrote d at bs x e) r

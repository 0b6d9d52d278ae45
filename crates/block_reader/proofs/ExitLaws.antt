-- What a `?` hands on.
use mathlib.Core.Path.{◌≡◌, ap, ◌∙◌}
use Rattle.std.specs.Prelude.{Option, None, Some, Result, Ok, Err}
use Rattle.std.specs.Option.{ok_or}
use Rattle.std.specs.Result.{IsErrAnd}
use Rattle.codec.proofs.Prelude.{apart}

-- the error
pub handed_on : {Y E : Type 0} (r : Result Y E) {e : E} → IsErrAnd r (λ y. y ≡ e) → r ≡ Err e
handed_on (Ok x) h = absurd h
handed_on (Err y) h = ap Err h

-- behind `ok_or`, where there was nothing, its error
pub none_exit : {X Y E : Type 0} (o : Option X) {r : Result Y E} {e d : E} → IsErrAnd r (λ y. y ≡ e) → Err e ≡ ok_or o d → r ≡ Err d
none_exit None {r} {e} {d} h said = let same : e ≡ d = cc in handed_on r h ∙ ap Err same
none_exit (Some x) h said = apart cc

-- The code's answers, by the definitions' outcomes.
use Rattle.std.specs.Prelude.{Option, None, Some}
use Rattle.std.proofs.Math.Option as maybe

-- what the code gives where a definition gives something or nothing
unfoldable pub given : {A : Type 0} → maybe.Option A → Option A
given maybe.none = None
given (maybe.some x) = Some x

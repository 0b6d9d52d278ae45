-- What is given, back and forth.
use mathlib.Core.Path.{◌≡◌, refl}
use mathlib.Core.Option as maybe
use mathlib.Core.Option.{none, some}
use Rattle.std.specs.Prelude.{Option, None, Some}
use Rattle.codec.specs.Answers.{given}
use Rattle.codec.proofs.Prelude.{came_of}

module _ {A : Type 0} where
  -- what a definition gave, by what the code gives
  abbrev pub back : Option A → maybe.Option A
  back None = none
  back (Some x) = some x

  pub said : (o : maybe.Option A) {r : Option A} → given o ≡ r → o ≡ back r
  unfolding given
  said = came_of given back (λ o. elim o as (λ o. back (given o) ≡ o) [ none ↦ refl | some x ↦ refl ])

  pub gives_none : {o : maybe.Option A} → o ≡ none → None ≡ given o
  unfolding given
  gives_none e = rw e

  pub gives_some : {o : maybe.Option A} {x : A} → o ≡ some x → Some x ≡ given o
  unfolding given
  gives_some e = rw e

-- the state of a builder: the filter choice and whether it is finished as numbers
use mathlib.Core.Path.{◌≡◌, refl, ap, ◌∙◌}
use mathlib.Core.Bool.{Bool, true, false, cond}
use Prim.Native.Nat.{ℕ}
use Rattle.std.specs.Int.{from_bool}
use Rattle.std.specs.Prelude.{ℕ, Option, None, Some, is_some, unwrap_or}
use Rattle.exports.specs.Building.{filter_number, filter_bits, state_out}
use Rattle.exports.proofs.building.SalevoniStateFromBuilder.from.Goals as goal

flag_is : (b : Bool) → from_bool b ≡ cond b 1 0
flag_is true = refl
flag_is false = refl

-- whether there is a filter, and its bits per key
some_is : (f : Option ℕ) → from_bool (is_some f) ≡ filter_number f
some_is None = refl
some_is (Some b) = refl

bits_are : (f : Option ℕ) → unwrap_or f 0 ≡ filter_bits f
bits_are None = refl
bits_are (Some b) = refl

pub returns : goal.returns
unfolding state_out
returns c =
    let filter = c.args.b.options.filter in
    let there = ap from_bool c.is_some.ensures in
    let flag = c.from-2.ensures ∙ flag_is c.args.b.finished in
    rw (c.from.ensures ∙ there ∙ some_is filter, c.unwrap_or.ensures ∙ bits_are filter, flag)

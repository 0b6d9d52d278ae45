-- The builder's calls through the state in numbers, and that no state is changed on the way out and in again.
use Prim.Native.Nat.{ℕ}
use mathlib.Core.Path.{◌≡◌, refl, ap, subst}
use mathlib.Core.Bool.{Bool, true, false, cond, not}
use lib.Dec.{eqb}
use Rattle.codec.specs.Shown.{Shown}
use Rattle.std.specs.Prelude.{Option, None, Some, Result}
use Rattle.table_block.specs.declared.refusal.Refusal.{Refusal}
use Rattle.table.specs.Options.{Addition}
use Rattle.table.specs.Runs.{Runs}
use Rattle.builder.specs.Answers.{Added, Finished, StartedIs, AddedIs, FinishedIs}
use Rattle.builder.specs.declared.table_builder.Builder.{Builder}
use Rattle.builder.specs.declared.table_builder.Options.{Options}
use Rattle.exports.specs.Building.{filter_in, filter_number, filter_bits, builder_in, state_out, state_kept, started_out, added_out, finished_out, StartsOut, AddsOut, FinishesOut}
use Rattle.exports.specs.declared.building.SalevoniState.{SalevoniState}
use Rattle.exports.specs.declared.building.SalevoniBuilt.{SalevoniBuilt}

filter_kept : (f : Option ℕ) → filter_in (filter_number f) (filter_bits f) ≡ f
filter_kept None = refl
filter_kept (Some b) = refl

flag_kept : (b : Bool) → not (eqb (cond b 1 0) 0) ≡ b
flag_kept true = refl
flag_kept false = refl

pub state_kept_lem : state_kept
unfolding builder_in state_out
state_kept_lem b = simp (filter_kept b.options.filter, flag_kept b.finished)

abbrev options : ℕ → ℕ → Option ℕ → Options
options size interval f = record { block_size = size; interval = interval; filter = f }

-- options with equal filters
pub with_filter_lem : {size interval : ℕ} {f g : Option ℕ} → f ≡ g
    → options size interval f ≡ options size interval g
with_filter_lem {size} {interval} e = ap (options size interval) e

-- what holds of one thing, and is shown, holds of one that is equal
shown_of : {S A R : Type 0} {show : A → R} (so : S → A → Type 0) {s z : S} {x : A} {y : R} → s ≡ z → so s x → y ≡ show x → Shown show (so z) y
shown_of so {x = x} e is shown = record { answer = x; shown = shown; is = subst (λ s. so s x) e is }

-- start of options that are equal
pub starts : {o p : Options} {r r' : Runs} {x : Result Builder Refusal} {y : SalevoniBuilt} → o ≡ p → StartedIs o r r' x → y ≡ started_out x → StartsOut p r r' y
starts {r = r} {r' = r'} = shown_of (λ o x. StartedIs o r r' x)

-- add to the builder of a state
pub adds : (s : SalevoniState) {b : Builder} {r r' : Runs} {a : Addition} {x : Added} {y : SalevoniBuilt} → b ≡ builder_in s → AddedIs b r r' a x → y ≡ added_out s x → AddsOut s r r' a y
adds s {r = r} {r' = r'} {a = a} = shown_of (λ b x. AddedIs b r r' a x)

-- finish of the builder of a state
pub finishes : (s : SalevoniState) {b : Builder} {r r' : Runs} {x : Finished} {y : SalevoniBuilt} → b ≡ builder_in s → FinishedIs b r r' x → y ≡ finished_out s x → FinishesOut s r r' y
finishes s {r = r} {r' = r'} = shown_of (λ b x. FinishedIs b r r' x)

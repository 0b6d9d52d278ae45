-- `keys::key_types::cmp_internal_key` meets its contract.
use mathlib.Core.Path.{ap₂, ◌∙◌}
use mathlib.Core.List.{List}
use Prim.Native.Nat.{ℕ, ◌/◌}
use Rattle.keys.specs.Answers.{order_answer}
use Rattle.keys.specs.Order.{point_of, by_point, seq_of}
use Rattle.keys.proofs.key_types.cmp_internal_key.Goals as goal

pub returns : goal.returns
unfolding seq_of
returns c = c.cmp_target.ensures
    ∙ ap₂ (λ (u : List ℕ) (t : ℕ). order_answer (by_point (point_of c.args.a.now) (record { word = u; edition = t / 256 }))) c.user_key.ensures c.tag_of.ensures

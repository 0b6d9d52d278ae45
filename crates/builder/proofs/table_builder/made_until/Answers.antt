-- `builder::table_builder::made_until` meets its contract.
use native.Mathlib.Omega.{arith}
use mathlib.Core.Path.{sym, ap, ◌∙◌}
use Prim.Native.Nat.{ℕ, ◌+◌}
use Rattle.filters.proofs.FilterCountLaws.{made_over, made_enough}
use Rattle.bloom.specs.Choice.{choice_of}
use Rattle.builder.specs.Steps.{filter_count_in}
use Rattle.builder.proofs.SizeLaws.{more_bytes}
use Rattle.builder.proofs.table_builder.made_until.Goals as goal

pub returns-then-n-f : goal.returns-then-n-f
unfolding filter_count_in
returns-then-n-f c = let a = c.args in sym (made_enough (choice_of a.choice) a.n (filter_count_in a.f) (omega arith))

pub returns : goal.returns
unfolding filter_count_in
returns c = let a = c.args in
    ap (λ (x : ℕ). record { bytes = a.f.bytes + x; made = a.n; waiting = 0 }) (more_bytes (choice_of a.choice) a.f.bytes a.f.waiting _ c.requires c.filter_bytes-more.ensures)
    ∙ sym (made_over (choice_of a.choice) a.n (filter_count_in a.f) (omega arith))

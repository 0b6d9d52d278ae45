-- `block_reader::block::long_head` meets its contract: each number is read from what is left after the one before.
use Prim.Native.Nat.{ℕ, ◌+◌, ◌≤◌}
use mathlib.Core.Path.{◌≡◌, sym, ◌∙◌}
use mathlib.Core.List.{List}
use native.Mathlib.Omega.{arith}
use lib.ListN.{length}
use Rattle.std.specs.Prelude.{Some}
use Rattle.codec.specs.Answers.{given}
use Rattle.codec.specs.Varint.{varint}
use Rattle.codec.proofs.VarintCode.{varint_within}
use Rattle.block_reader.proofs.EntryLaws.{after, no_shared, no_fresh, no_value, whole_head, head_fits}
use Rattle.block_reader.proofs.block.long_head.Goals as goal
use Rattle.block_reader.proofs.block.long_head.Goals.{In_ok-shared, In_ok-fresh, In_ok-value}

-- what is left after the first
abbrev second : (c : In_ok-shared) → List ℕ
second c = after c.args.rest.now c.in_ok-shared.shared.size

one : (c : In_ok-shared) → given (varint c.args.rest.now) ≡ Some c.in_ok-shared.shared
one c = sym c.read_varint.ensures ∙ c.in_ok-shared.was

two : (c : In_ok-fresh) → given (varint (second (goal.at.slice_bounds-third-count c).In_ok-shared)) ≡ Some c.in_ok-fresh.fresh
two c = sym c.read_varint-2.ensures ∙ c.in_ok-fresh.was

three : (c : In_ok-value) → given (varint (after (after c.args.rest.now c.in_ok-shared.shared.size) c.in_ok-fresh.fresh.size)) ≡ Some c.in_ok-value.value
three c = sym c.read_varint-3.ensures ∙ c.in_ok-value.was

fits : (c : In_ok-value) → c.in_ok-shared.shared.size + c.in_ok-fresh.fresh.size + c.in_ok-value.value.size ≤ length c.args.rest.now
fits c = head_fits _ (sym c.read_varint.ensures ∙ c.in_ok-shared.was) (sym c.read_varint-2.ensures ∙ c.in_ok-fresh.was) (three c)

pub returns-in_err-shared : goal.returns-in_err-shared
returns-in_err-shared c = c.from_residual.ensures ∙ no_shared _ (sym c.read_varint.ensures ∙ c.in_err-shared.was)

pub slice_bounds-second-count : goal.slice_bounds-second-count
slice_bounds-second-count c = varint_within _ (one c)

pub slice_bounds-second-start : goal.slice_bounds-second-start
slice_bounds-second-start c = varint_within _ (one c)

pub returns-in_err-fresh : goal.returns-in_err-fresh
returns-in_err-fresh c = c.from_residual-in_err-fresh.ensures ∙ no_fresh _ (one (goal.at.returns-in_err-fresh c).In_ok-shared) (sym c.read_varint-2.ensures ∙ c.in_err-fresh.was)

pub slice_bounds-third-count : goal.slice_bounds-third-count
slice_bounds-third-count c = varint_within _ (two c)

pub slice_bounds-third-start : goal.slice_bounds-third-start
slice_bounds-third-start c = varint_within _ (two c)

pub returns-in_err-value : goal.returns-in_err-value
returns-in_err-value c = c.from_residual-in_err-value.ensures ∙ no_value _ (one (goal.at.returns-in_err-value c).In_ok-shared) (two (goal.at.returns-in_err-value c).In_ok-fresh) (sym c.read_varint-3.ensures ∙ c.in_err-value.was)

pub overflow_add-result : goal.overflow_add-result
overflow_add-result c = omega (arith, fits (goal.at.overflow_add-result c).In_ok-value)

pub overflow_add-result-2 : goal.overflow_add-result-2
overflow_add-result-2 c = omega (arith, fits (goal.at.overflow_add-result-2 c).In_ok-value)

pub returns : goal.returns
returns c = whole_head _ (one (goal.at.returns c).In_ok-shared) (two (goal.at.returns c).In_ok-fresh) (three (goal.at.returns c).In_ok-value)

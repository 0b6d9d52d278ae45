-- `block_reader::block::fresh_key` meets its contract.
use mathlib.Core.Path.{◌≡◌, sym, ◌∙◌}
use native.Mathlib.Omega.{arith}
use Rattle.std.specs.Prelude.{Some}
use Rattle.block_reader.specs.Steps.{head_after, head_answer}
use Rattle.block_reader.proofs.EntryLaws.{after, fresh_none, fresh_some, fresh_within}
use Rattle.block_reader.proofs.block.fresh_key.Goals as goal
use Rattle.block_reader.proofs.block.fresh_key.Goals.{In_ok-head}

told : (c : In_ok-head) → head_answer (head_after 0 (after c.args.d.now c.args.at)) ≡ Some c.in_ok-head.head
told c = sym c.head_after.ensures ∙ c.in_ok-head.was

pub returns-in_err-head : goal.returns-in_err-head
returns-in_err-head c = rw c.from_residual.ensures (fresh_none _ _ (sym c.head_after.ensures ∙ c.in_err-head.was))

pub overflow_add-end : goal.overflow_add-end
overflow_add-end c = omega (arith, fresh_within c.args.d.now c.args.at (told (goal.at.overflow_add-end c).In_ok-head))

pub slice_bounds-result-end : goal.slice_bounds-result-end
slice_bounds-result-end c = fresh_within c.args.d.now c.args.at (told (goal.at.slice_bounds-result-end c).In_ok-head)

pub returns : goal.returns
returns c = fresh_some _ _ (told (goal.at.returns c).In_ok-head)

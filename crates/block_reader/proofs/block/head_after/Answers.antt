-- `block_reader::block::head_after` meets its contract: no sum of the numbers is made before each is known to be within the rest.
use mathlib.Core.Path.{◌≡◌, sym, ◌∙◌}
use native.Mathlib.Omega.{arith}
use Rattle.std.specs.Prelude.{Some}
use Rattle.blocks.specs.Block.{head}
use Rattle.block_reader.specs.Steps.{head_answer}
use Rattle.block_reader.proofs.EntryLaws.{no_numbers, numbers_within, shares_more, not_within, head_stands}
use Rattle.block_reader.proofs.block.head_after.Goals as goal
use Rattle.block_reader.proofs.block.head_after.Goals.{In_ok-head, then-room-head-via-then-room-head, then-room-head-via-else-room-head+then-room-head-2}

-- the numbers
told : (c : In_ok-head) → head_answer (head c.args.rest.now) ≡ Some c.in_ok-head.head
told c = sym c.read_head.ensures ∙ c.in_ok-head.was

pub returns-in_err-head : goal.returns-in_err-head
returns-in_err-head c = c.from_residual.ensures ∙ no_numbers _ _ (sym c.read_head.ensures ∙ c.in_err-head.was)

pub returns-then-n-head : goal.returns-then-n-head
returns-then-n-head c = shares_more _ _ (told (goal.at.returns-then-n-head c).In_ok-head) c.if-n-head.true

pub overflow_sub-room : goal.overflow_sub-room
overflow_sub-room c = numbers_within _ (told (goal.at.overflow_sub-room c).In_ok-head)

pub returns-then-room-head : goal.returns-then-room-head
returns-then-room-head c =
    let h = told (goal.at.returns-then-room-head c).In_ok-head in
    let l = numbers_within _ h in
    not_within _ _ h c.if-n-head.false (elim c.then-room-head.branch [
      | then-room-head-via-then-room-head w ↦ omega (arith, l, w.if-room-head.true)
      | then-room-head-via-else-room-head+then-room-head-2 w ↦ omega (arith, l, w.if-room-head.false, w.if-room-head-2.true)
    ])

pub returns : goal.returns
returns c = let h = told (goal.at.returns c).In_ok-head in head_stands _ _ h c.if-n-head.false (omega (arith, numbers_within _ h))

-- `table_block::footer::placed` meets its contract, without a sum that could overflow.
use mathlib.Core.Path.{◌∙◌}
use native.Mathlib.Omega.{arith}
use borrow.Author.Tests.{lt-leb}
use Rattle.table_block.proofs.FooterLaws.{ends_short, ends_over, ends_within}
use Rattle.table_block.proofs.footer.placed.Goals as goal

pub returns-in_default : goal.returns-in_default
returns-in_default c = ends_short _ _ _ (omega (arith, c.in_default.ensures))

pub returns-then-handle-room : goal.returns-then-handle-room
returns-then-handle-room c = ends_within _ _ _ c.in-Some.room (omega (arith, c.in-Some.ensures)) c.if-handle-room.true

pub returns-else-handle-room : goal.returns-else-handle-room
returns-else-handle-room c = lt-leb _ _ c.if-handle-room.false ∙ ends_over _ _ _ c.in-Some.room (omega (arith, c.in-Some.ensures)) c.if-handle-room.false

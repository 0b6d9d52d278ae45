-- `reader::table_reader::step` meets its contract.
use native.Mathlib.Omega.{arith}
use Rattle.block_reader.proofs.ExitLaws.{handed_on}
use Rattle.reader.proofs.CallLaws.{indexed, step_two, step_footed, step_found}
use Rattle.reader.proofs.AnswerLaws.{tells_short}
use Rattle.reader.proofs.table_reader.step.Goals as goal

pub returns-then-key-lt1032 : goal.returns-then-key-lt1032
returns-then-key-lt1032 c = step_two _ _ _ _ c.if-key-lt1032.true

pub returns-in_err-table : goal.returns-in_err-table
returns-in_err-table c =
    rw (handed_on _ c.from_residual.ensures.1) (step_footed _ _ c.if-key-lt1032.false c.in_err-table.ensures _ _)

pub hand-requires : goal.hand-requires
hand-requires c = (omega (arith, c.if-key-lt1032.false), tells_short c.follow-found.ensures)

pub returns : goal.returns
returns c = let same = c.in_ok-table.ensures in
    step_found _ _ c.if-key-lt1032.false (indexed (rw same at c.in_ok-table.table.ends)) c.hand.ensures.same c.hand.ensures.handed _ _ (rw same at c.follow-found.ensures)

-- `block_reader::block::layout` meets its contract.
use Prim.Native.Nat.{◌+◌}
use mathlib.Core.Path.{◌≡◌, sym, ◌∙◌}
use native.Mathlib.Omega.{arith}
use lib.ListN.{length}
use Rattle.std.specs.Prelude.{Some}
use Rattle.codec.specs.Answers.{given}
use Rattle.codec.specs.Bytes.{number_at}
use Rattle.codec.proofs.FixedLaws.{number_there}
use Rattle.codec.proofs.GivenLaws.{said}
use Rattle.block_reader.proofs.LayoutLaws.{rows_short, rows_none, rows_over, rows_some}
use Rattle.block_reader.proofs.block.layout.Goals as goal
use Rattle.block_reader.proofs.block.layout.Goals.{In_ok-last, In_ok-count, then-count-lt1-via-then-count-lt1, then-count-lt1-via-else-count-lt1+then-last-count}

-- the last number, and where it stands
long : (c : In_ok-last) → c.in_ok-last.last + 4 ≡ length c.args.s.now
long c = omega (arith, c.in_ok-last.ensures)

last : (c : In_ok-count) → given (number_at 4 c.args.s.now c.in_ok-last.last) ≡ Some c.in_ok-count.field-0
last c = sym c.read.ensures ∙ c.in_ok-count.was

pub returns-in_err-last : goal.returns-in_err-last
returns-in_err-last c = c.from_residual.ensures ∙ rows_short _ (omega (arith, c.in_err-last.ensures))

pub returns-in_err-count : goal.returns-in_err-count
returns-in_err-count c = absurd (number_there 4 _ _ (omega (arith, long (goal.at.returns-in_err-count c).In_ok-last)) (said _ (sym c.read.ensures ∙ c.in_err-count.was)))

pub returns-then-count-lt1 : goal.returns-then-count-lt1
returns-then-count-lt1 c =
    let l = long (goal.at.returns-then-count-lt1 c).In_ok-last in
    let n = last (goal.at.returns-then-count-lt1 c).In_ok-count in
    elim c.then-count-lt1.branch [
      | then-count-lt1-via-then-count-lt1 w ↦ rows_none _ _ l n w.if-count-lt1.true
      | then-count-lt1-via-else-count-lt1+then-last-count w ↦ rows_over _ _ l n w.if-count-lt1.false (omega (arith, w.if-last-count.true))
    ]

pub returns : goal.returns
returns c = rows_some _ _ (long (goal.at.returns c).In_ok-last) (last (goal.at.returns c).In_ok-count) c.if-count-lt1.false (omega (arith, c.if-last-count.false))

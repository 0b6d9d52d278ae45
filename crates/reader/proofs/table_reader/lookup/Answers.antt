-- `reader::table_reader::lookup` meets its contract.
use mathlib.Core.Path.{sym, ◌∙◌, subst}
use native.Mathlib.Omega.{arith}
use Rattle.block_reader.proofs.ExitLaws.{handed_on}
use Rattle.reader.specs.Parts.{Short}
use Rattle.table.specs.Reads.{refused}
use Rattle.reader.specs.Answers.{looked_of}
use Rattle.reader.proofs.CallLaws.{three, two, as_shown, indexed, look_footed, look_found}
use Rattle.reader.proofs.AnswerLaws.{tells_short}
use Rattle.reader.proofs.table_reader.lookup.Goals as goal

pub returns-then-not-fits : goal.returns-then-not-fits
unfolding looked_of
returns-then-not-fits c = as_shown (refused _) (three _ _ _ _ (sym c.fits.ensures ∙ c.if-not-fits.true))

pub returns-then-key-lt1032 : goal.returns-then-key-lt1032
unfolding looked_of
returns-then-key-lt1032 c = as_shown (refused _) (two _ _ _ _ (sym c.fits.ensures ∙ c.if-not-fits.false) c.if-key-lt1032.true)

pub returns-in_err-table : goal.returns-in_err-table
returns-in_err-table c =
    rw (handed_on _ c.from_residual.ensures.1) (look_footed _ _ c.if-key-lt1032.false c.in_err-table.ensures _ (sym c.fits.ensures ∙ c.if-not-fits.false))

pub hand-requires : goal.hand-requires
hand-requires c = (omega (arith, c.if-key-lt1032.false), tells_short c.look-found.ensures)

pub by_kind-requires : goal.by_kind-requires
by_kind-requires c = subst Short (sym c.hand.ensures.same) (tells_short c.look-found.ensures)

pub returns : goal.returns
returns c = let same = c.in_ok-table.ensures in
    look_found _ _ c.if-key-lt1032.false (indexed (rw same at c.in_ok-table.table.ends)) c.hand.ensures.same c.hand.ensures.handed _ (sym c.fits.ensures ∙ c.if-not-fits.false) (rw same at c.look-found.ensures) c.by_kind.ensures

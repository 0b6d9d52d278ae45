-- `reader::table_reader::locate` meets its contract.
use mathlib.Core.Path.{◌≡◌, sym, ◌∙◌, ap}
use borrow.Author.Rules.{rules}
use Rattle.std.specs.Prelude.{Ok, Some}
use Rattle.block_reader.proofs.ExitLaws.{handed_on}
use Rattle.codec.proofs.BytesLaws.{part_between}
use Rattle.reader.specs.Parts.{one_located, located_of}
use Rattle.reader.proofs.table_reader.locate.Goals as goal
use Rattle.reader.proofs.table_reader.locate.Goals.{In-Ok-Some}

-- an entry was found
found_is : (c : In-Ok-Some) → c.args.found ≡ Ok (Some c.in-Ok-Some.entry)
found_is c = search rules

pub returns-in_err-block-in-Ok-Some : goal.returns-in_err-block-in-Ok-Some
unfolding located_of
returns-in_err-block-in-Ok-Some c =
    rw (handed_on _ c.from_residual.ensures.1) (ap one_located (sym c.in_err-block-in-Ok-Some.was ∙ c.by_handle.ensures) ∙ rw (found_is (goal.at.returns-in_err-block-in-Ok-Some c).In-Ok-Some, part_between _ _ _))

pub returns-in_ok-block-in-Ok-Some : goal.returns-in_ok-block-in-Ok-Some
unfolding located_of
returns-in_ok-block-in-Ok-Some c =
    ap one_located (sym c.in_ok-block-in-Ok-Some.was ∙ c.by_handle.ensures) ∙ rw (found_is (goal.at.returns-in_ok-block-in-Ok-Some c).In-Ok-Some, part_between _ _ _)

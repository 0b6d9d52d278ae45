-- The code's answer, by the definition's outcome.
use Rattle.std.specs.Prelude.{Result, Ok, Err}
use Rattle.table.specs.Checked.{Checked, pass, refuse}
use Rattle.table_block.specs.Refusals.{refusal}
use Rattle.table_block.specs.declared.refusal.Refusal.{Refusal}

-- the full check: that the table passes, or the refusal
unfoldable pub verdict_of : Checked (Unit {0}) → Result (Unit {0}) Refusal
verdict_of (pass u) = Ok tt
verdict_of (refuse n) = Err (refusal n)

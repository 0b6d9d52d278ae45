-- `full_check::check::entries` meets its contract.
use mathlib.Core.Path.{sym, ◌∙◌}
use native.Mathlib.Omega.{arith}
use lib.Seq.{length-take-le}
use Rattle.block_reader.proofs.LayoutLaws.{laid}
use Rattle.block_reader.proofs.SeekLaws.{never_read, read_whole}
use Rattle.full_check.proofs.check.entries.Goals as goal

pub slice_bounds-result-end-in-Some : goal.slice_bounds-result-end-in-Some
slice_bounds-result-end-in-Some c = sym (length-take-le _ _ (omega (arith, (laid _ (sym c.layout.ensures ∙ c.in-Some.is)).fits)))

pub returns-in-None : goal.returns-in-None
returns-in-None c = λ es read. absurd (never_read _ (sym c.layout.ensures ∙ c.in-None.is) read)

pub returns-in-Some : goal.returns-in-Some
returns-in-Some c = λ es read. read_whole _ (laid _ (sym c.layout.ensures ∙ c.in-Some.is)) read

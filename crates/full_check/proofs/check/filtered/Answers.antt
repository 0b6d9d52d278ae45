-- `full_check::check::filtered` meets its contract.
use mathlib.Core.Path.{sym, ap, ◌∙◌}
use Rattle.block_reader.proofs.ExitLaws.{handed_on}
use Rattle.full_check.specs.Answers.{verdict_of}
use Rattle.full_check.proofs.DataLaws.{refused}
use Rattle.full_check.proofs.CheckLaws.{filter_outside, filter_malformed, filter_stands}
use Rattle.full_check.proofs.check.filtered.Goals as goal

pub returns-in_err-filter : goal.returns-in_err-filter
returns-in_err-filter c = λ es read.
    rw (handed_on _ c.from_residual.ensures.1) (refused (filter_outside _ _ _ c.in_err-filter.ensures))

pub returns-then-not-is_formed : goal.returns-then-not-is_formed
returns-then-not-is_formed c = λ es read.
    let s = c.in_ok-filter.ensures in
    refused (filter_malformed _ _ _ s.1 s.2 (sym c.is_formed.ensures ∙ c.if-not-is_formed.true))

pub returns : goal.returns
returns c = λ es read.
    let s = c.in_ok-filter.ensures in
    c.blocks_in.ensures es read ∙ ap verdict_of (sym (filter_stands _ _ _ s.1 s.2 (sym c.is_formed.ensures ∙ c.if-not-is_formed.false)))

-- `full_check::check::check` meets its contract.
use mathlib.Core.Path.{sym, ap, ◌∙◌}
use Rattle.block_reader.proofs.ExitLaws.{handed_on}
use Rattle.full_check.specs.Answers.{verdict_of}
use Rattle.full_check.proofs.DataLaws.{refused}
use Rattle.full_check.proofs.CheckLaws.{footer_refused, footer_read, meta_refused, index_refused, both_sorted}
use Rattle.full_check.proofs.check.check.Goals as goal

pub returns-in_err-footer : goal.returns-in_err-footer
returns-in_err-footer c =
    rw (handed_on _ c.from_residual.ensures.1) (footer_refused _ (sym c.decode.ensures ∙ c.in_err-footer.was))

pub returns-in_err-metaindex : goal.returns-in_err-metaindex
returns-in_err-metaindex c =
    let whole = footer_read _ (sym c.decode.ensures ∙ c.in_ok-footer.was) in
    rw (handed_on _ c.from_residual-in_err-metaindex.ensures.1) (refused (sym whole ∙ meta_refused _ _ _ c.in_err-metaindex.ensures))

pub returns-in_err-index : goal.returns-in_err-index
returns-in_err-index c =
    let whole = footer_read _ (sym c.decode.ensures ∙ c.in_ok-footer.was) in
    rw (handed_on _ c.from_residual-in_err-index.ensures.1) (refused (sym whole ∙ index_refused _ _ _ c.in_ok-metaindex.ensures.1 c.in_err-index.ensures))

pub returns : goal.returns
returns c =
    let m = c.in_ok-metaindex.ensures in
    let i = c.in_ok-index.ensures in
    let whole = footer_read _ (sym c.decode.ensures ∙ c.in_ok-footer.was) in
    c.rest.ensures m.0 i.0 m.2 (c.entries.ensures i.0 i.2) ∙ ap verdict_of (sym (both_sorted _ _ _ m.1 i.1) ∙ whole)

-- `reader::table_reader::by_kind` meets its contract.
use Prim.Native.Nat.{ℕ, ◌%◌}
use mathlib.Core.Path.{sym, ◌∙◌, ap}
use borrow.Author.Tests.{eq-eqb, ne_eqb}
use Rattle.std.specs.Prelude.{Ok}
use Rattle.block_reader.proofs.ExitLaws.{handed_on}
use Rattle.reader.proofs.LookLaws.{kind_refused, kind_none, kind_is}
use Rattle.reader.proofs.table_reader.by_kind.Goals as goal

pub returns-in_err-entry : goal.returns-in_err-entry
returns-in_err-entry c = λ a shown holds kind.
    rw (handed_on _ c.from_residual.ensures.1) (kind_refused a shown c.in_err-entry.was)

pub returns-in_default : goal.returns-in_default
returns-in_default c = λ a shown holds kind. kind_none a shown (c.in_ok-entry.was ∙ ap Ok c.in_default.is)

pub returns-then-deletion : goal.returns-then-deletion
returns-then-deletion c = λ a shown holds kind. kind_is a shown _ (c.in_ok-entry.was ∙ ap Ok c.in-Some.is) (eq-eqb _ 0 (ap (λ (m : ℕ). m % 256) (sym c.tag_of.ensures) ∙ c.if-deletion.true)) holds kind

pub returns : goal.returns
returns c = λ a shown holds kind. kind_is a shown _ (c.in_ok-entry.was ∙ ap Ok c.in-Some.is) (ne_eqb _ 0 (λ e. c.if-deletion.false (ap (λ (m : ℕ). m % 256) c.tag_of.ensures ∙ e))) holds kind

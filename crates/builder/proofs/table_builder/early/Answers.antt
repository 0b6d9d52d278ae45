-- `builder::table_builder::early` meets its contract.
use mathlib.Core.Path.{◌≡◌, sym, ap, ◌∙◌}
use mathlib.Core.Bool.{Bool, true, false, cond}
use Rattle.builder.specs.Steps.{unless, early_of}
use Rattle.builder.proofs.DecideLaws.{early_finished, early_insane, early_sane}
use Rattle.builder.proofs.table_builder.early.Goals as goal
use Rattle.builder.proofs.table_builder.early.Goals.{Else-not-is_sane}

pub returns-then-s : goal.returns-then-s
returns-then-s c = let a = c.args in ap unless (early_finished a.s.now a.l a.fits c.if-s.true)

pub returns-then-not-is_sane : goal.returns-then-not-is_sane
returns-then-not-is_sane c = let a = c.args in ap unless (early_insane a.s.now a.l a.fits c.if-s.false c.is_sane.ensures (c.if-not-is_sane.true))

-- of a sane state: by whether the addition fits
by_fits : (c : Else-not-is_sane) (t : Bool) → c.args.fits ≡ t → unless (early_of c.args.s.now c.args.l c.args.fits) ≡ unless (cond t 0 3)
by_fits c t e = let a = c.args in ap unless (early_sane a.s.now a.l a.fits c.if-s.false (sym c.is_sane.ensures ∙ c.if-not-is_sane.false) ∙ ap (λ (b : Bool). cond b 0 3) e)

pub returns-then-not-fits : goal.returns-then-not-fits
returns-then-not-fits c = sym (by_fits (goal.at.returns-then-not-fits c).Else-not-is_sane false c.if-not-fits.true)

pub returns : goal.returns
returns c = sym (by_fits (goal.at.returns c).Else-not-is_sane true c.if-not-fits.false)

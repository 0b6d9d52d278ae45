-- `keys::cmp::sep_below` meets its contract.
use mathlib.Core.Path.{sym, ap, ◌∙◌}
use Rattle.keys.specs.Order.{bytes_below}
use Rattle.keys.specs.Plan.{sep_bytes}
use Rattle.keys.proofs.AnswerLaws.{less_told}
use Rattle.keys.proofs.PlanLaws.{fits_raised}
use Rattle.keys.proofs.cmp.sep_below.Goals as goal

pub raised_below-requires : goal.raised_below-requires
raised_below-requires c = fits_raised c.requires c.in-Raised.is

pub returns-in-Whole : goal.returns-in-Whole
unfolding bytes_below sep_bytes
returns-in-Whole c = let a = c.args in
    less_told _ c.is_lt.ensures c.cmp.ensures ∙ sym (ap (λ s. bytes_below (sep_bytes a.a.now s) a.b.now) c.in-Whole.is)

pub returns-in-Longer : goal.returns-in-Longer
unfolding sep_bytes
returns-in-Longer c = let a = c.args in
    c.joined_below.ensures ∙ sym (ap (λ s. bytes_below (sep_bytes a.a.now s) a.b.now) c.in-Longer.is)

pub returns-in-Raised : goal.returns-in-Raised
unfolding sep_bytes
returns-in-Raised c = let a = c.args in
    c.raised_below.ensures ∙ sym (ap (λ s. bytes_below (sep_bytes a.a.now s) a.b.now) c.in-Raised.is)

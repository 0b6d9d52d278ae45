-- `builder::table_builder::SmallBuilder::cut_before` meets its contract.
use mathlib.Core.Path.{sym, ap, ◌∙◌}
use native.Mathlib.Omega.{arith}
use lib.ListN.{length-take}
use lib.Seq.{length-take-le}
use Rattle.builder.specs.Steps.{last_of, sep_of, closed_state}
use Rattle.builder.proofs.DecideLaws.{mid_is}
use Rattle.builder.proofs.table_builder.SmallBuilder.cut_before.Goals as goal

pub returns-then-not-cut : goal.returns-then-not-cut
returns-then-not-cut c = c.requires.1 ∙ mid_is c.args.self.now.state.now c.args.key.now (sym (c.if-not-cut.true) ∙ c.requires.0)

pub slice_bounds-close_under-end : goal.slice_bounds-close_under-end
slice_bounds-close_under-end c = let p = c.put_separator-n in sym (length-take-le p.result _ (omega (arith, p.ensures.0, p.ensures.1.0)))

pub close_under-requires : goal.close_under-requires
close_under-requires c = (simp length-take (omega (arith, c.put_separator-n.ensures.0)), c.requires.1)

pub returns : goal.returns
unfolding last_of sep_of
returns c = c.close_under.ensures ∙ ap (closed_state c.args.self.now.state.now) (rw c.last.ensures.said at c.put_separator-n.ensures.1.1) ∙ mid_is c.args.self.now.state.now c.args.key.now (sym (c.if-not-cut.false) ∙ c.requires.0)

-- `builder::table_builder::start` meets its contract.
use Rattle.builder.specs.State.{lent}
use Rattle.builder.proofs.StartLaws.{refused_options, refused_runs, passed_start}
use Rattle.builder.proofs.table_builder.start.Goals as goal

pub returns-then-not-options_fit : goal.returns-then-not-options_fit
returns-then-not-options_fit c = let a = c.args in
    refused_options a.options (lent a.runs) c.options_fit.ensures (c.if-not-options_fit.true)

pub returns-then-not-runs_fit : goal.returns-then-not-runs_fit
returns-then-not-runs_fit c = let a = c.args in
    refused_runs a.options (lent a.runs) c.options_fit.ensures (c.if-not-options_fit.false) (rw c.lengths-lengths.ensures at c.runs_fit.ensures) (c.if-not-runs_fit.true)

pub returns : goal.returns
returns c = let a = c.args in
    passed_start a.options (lent a.runs) c.options_fit.ensures (c.if-not-options_fit.false) (rw c.lengths-lengths.ensures at c.runs_fit.ensures) (c.if-not-runs_fit.false) (rw c.lengths-lengths.ensures at c.begun.ensures)

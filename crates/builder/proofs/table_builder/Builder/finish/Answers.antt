-- `builder::table_builder::Builder::finish` meets its contract.
use mathlib.Core.Path.{◌≡◌, refl, sym, ◌∙◌}
use mathlib.Core.Bool.{true}
use Rattle.std.specs.Prelude.{Result}
use Rattle.std.proofs.lemmas.Result.{err_from_is_err_and}
use Rattle.table_block.specs.declared.refusal.Refusal as Why
use Rattle.table.specs.Runs.{Runs}
use Rattle.builder.specs.declared.table_builder.Builder.{Builder}
use Rattle.builder.specs.declared.table_builder.Lengths.{Lengths}
use Rattle.builder.specs.State.{lent, lengths_of}
use Rattle.builder.specs.Steps.{unless, early_of}
use Rattle.builder.specs.Answers.{over_state}
use Rattle.builder.proofs.AddLaws.{unless_ok}
use Rattle.builder.proofs.LastLaws.{finish_refused, finish_is_sane, finish_full, finish_done}
use Rattle.builder.proofs.table_builder.Builder.finish.Goals as goal
use Rattle.builder.proofs.table_builder.Builder.finish.Goals.{In_ok-early}

-- what `early` said, of the runs' lengths
early_said : (s : Builder) (r : Runs) {l : Lengths} {x : Result (Unit {0}) Why.Refusal} → l ≡ lengths_of r → x ≡ unless (early_of s l true) → unless (early_of s (lengths_of r) true) ≡ x
early_said s r e q = rw e at (sym q)

early_is : (c : In_ok-early) → early_of c.args.self.now (lengths_of (lent c.args.runs)) true ≡ 0
early_is c = unless_ok _ (early_said c.args.self.now (lent c.args.runs) c.lengths-lengths.ensures c.early.ensures ∙ c.in_ok-early.was)

pub returns-in_err-early : goal.returns-in_err-early
returns-in_err-early c = let q = err_from_is_err_and c.from_residual.result c.from_residual.ensures.1 in
    rw (q.1, q.2) (finish_refused c.args.self.now (lent c.args.runs) (early_said c.args.self.now (lent c.args.runs) c.lengths-lengths.ensures c.early.ensures ∙ c.in_err-early.was))

pub decide_end-requires : goal.decide_end-requires
decide_end-requires c = (rw c.lengths-lengths.ensures (finish_is_sane c.args.self.now (lent c.args.runs) (early_is (goal.at.decide_end-requires c).In_ok-early)), refl)

pub returns-in_err-p : goal.returns-in_err-p
returns-in_err-p c = let q = err_from_is_err_and c.from_residual-in_err-p.result c.from_residual-in_err-p.ensures.1 in
    rw (q.1, q.2) (finish_full c.args.self.now (lent c.args.runs) (early_is (goal.at.returns-in_err-p c).In_ok-early) (rw c.lengths-lengths.ensures at c.in_err-p.ensures))

pub returns : goal.returns
unfolding over_state
returns c = finish_done c.args.self.now (lent c.args.runs) (early_is (goal.at.returns c).In_ok-early) (rw c.lengths-lengths.ensures at c.in_ok-p.ensures) refl c.close_out.ensures (rw c.front.ensures at c.close_index.ensures) (rw c.front-2.ensures at c.more_filters.ensures) (rw c.front-3.ensures at c.more_filters-2.ensures) c.write_end.ensures (c.more_filters-2.auto.filters ∙ c.more_filters.auto.filters, (c.more_filters-2.auto.offsets ∙ c.more_filters.auto.offsets, c.close_index.auto.index)) refl

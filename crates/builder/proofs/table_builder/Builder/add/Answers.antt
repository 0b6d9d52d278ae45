-- `builder::table_builder::Builder::add` meets its contract.
use mathlib.Core.Path.{◌≡◌, refl, sym, ◌∙◌}
use native.Mathlib.Omega.{arith}
use lib.ListN.{length-take}
use lib.Seq.{length-take-le}
use mathlib.Core.Bool.{Bool}
use Rattle.std.specs.Prelude.{Result}
use Rattle.std.proofs.lemmas.Result.{err_from_is_err_and}
use Rattle.table_block.specs.declared.refusal.Refusal as Why
use Rattle.table.specs.Runs.{Runs}
use Rattle.table.specs.Options.{Addition}
use Rattle.table.specs.Build.{key_of}
use Rattle.builder.specs.declared.table_builder.Builder.{Builder}
use Rattle.builder.specs.declared.table_builder.Lengths.{Lengths}
use Rattle.builder.specs.State.{lent, lengths_of}
use Rattle.builder.specs.Steps.{unless, early_of}
use Rattle.table.proofs.AcceptLaws.{fit_parts}
use Rattle.builder.proofs.AddLaws.{add_refused, add_ready, add_put, put_refused, put_done, add_is_ready, unless_ok}
use borrow.Author.Rules.{rules}
use Rattle.builder.proofs.table_builder.Builder.add.Goals as goal
use Rattle.builder.proofs.table_builder.Builder.add.Goals.{Start, In_ok-early}

abbrev given : (c : Start) → Addition
given c = let a = c.args in record { word = a.word.now; edition = a.edition; kind = a.kind; value = a.value.now }

-- what `early` said, of the runs' lengths
early_said : (s : Builder) (t : Bool) (r : Runs) {l : Lengths} {x : Result (Unit {0}) Why.Refusal} → l ≡ lengths_of r → x ≡ unless (early_of s l t) → unless (early_of s (lengths_of r) t) ≡ x
early_said s t r e q = rw e at (sym q)

early_is : (c : In_ok-early) → early_of c.args.self.now (lengths_of (lent c.args.runs)) c.addition_fits.result ≡ 0
early_is c = unless_ok _ (early_said c.args.self.now c.addition_fits.result (lent c.args.runs) c.lengths-lengths.ensures c.early.ensures ∙ c.in_ok-early.was)

pub returns-in_err-early : goal.returns-in_err-early
returns-in_err-early c = let at = (goal.at.returns-in_err-early c).Start in
    let q = err_from_is_err_and c.from_residual.result c.from_residual.ensures.1 in
    let u = early_said c.args.self.now c.addition_fits.result (lent c.args.runs) c.lengths-lengths.ensures c.early.ensures ∙ c.in_err-early.was in
    rw (q.1, q.2) (add_refused c.args.self.now (lent c.args.runs) (given at) c.addition_fits.ensures u)

pub put_key-n-requires : goal.put_key-n-requires
put_key-n-requires c = (search rules, (fit_parts (given (goal.at.put_key-n-requires c).Start) (add_ready c.args.self.now (lent c.args.runs) (given (goal.at.put_key-n-requires c).Start) c.addition_fits.ensures (early_is (goal.at.put_key-n-requires c).In_ok-early)).1).high)

pub slice_bounds-decide-end : goal.slice_bounds-decide-end
slice_bounds-decide-end c = let p = c.put_key-n in sym (length-take-le p.result _ (omega (arith, p.ensures.0, p.ensures.1.0)))

pub decide-requires : goal.decide-requires
decide-requires c = let at = (goal.at.decide-requires c).Start in
    (rw c.lengths-lengths.ensures (add_is_ready c.args.self.now (lent c.args.runs) (given at) (add_ready c.args.self.now (lent c.args.runs) (given at) c.addition_fits.ensures (early_is (goal.at.decide-requires c).In_ok-early)) (simp length-take (omega (arith, c.put_key-n.ensures.0)))), refl)

pub returns-in_err-p : goal.returns-in_err-p
unfolding key_of
returns-in_err-p c = let at = (goal.at.returns-in_err-p c).Start in
    let q = err_from_is_err_and c.from_residual-in_err-p.result c.from_residual-in_err-p.ensures.1 in
    let d = rw (c.put_key-n.ensures.1.1, c.lengths-lengths.ensures) at c.in_err-p.ensures in
    rw (q.1, q.2) (add_put c.args.self.now (lent c.args.runs) (given at) c.addition_fits.ensures (early_is (goal.at.returns-in_err-p c).In_ok-early) (put_refused c.args.self.now (lengths_of (lent c.args.runs)) _ c.args.word.now c.args.value.now (lent c.args.runs) d))

pub slice_bounds-key-end-2 : goal.slice_bounds-key-end-2
slice_bounds-key-end-2 c = omega (arith, c.put_key-n.ensures.0, c.put_key-n.ensures.1.0)

pub slice_bounds-write_after-end : goal.slice_bounds-write_after-end
slice_bounds-write_after-end c = let p = c.put_key-n in sym (length-take-le p.result _ (omega (arith, p.ensures.0, p.ensures.1.0)))

pub returns : goal.returns
unfolding key_of
returns c = let at = (goal.at.returns c).Start in
    let d = rw (c.put_key-n.ensures.1.1, c.lengths-lengths.ensures) at c.in_ok-p.ensures in
    add_put c.args.self.now (lent c.args.runs) (given at) c.addition_fits.ensures (early_is (goal.at.returns c).In_ok-early)
    (put_done c.args.self.now (lengths_of (lent c.args.runs)) _ c.args.word.now c.args.value.now (lent c.args.runs) d c.close_out.ensures (rw c.front.ensures at c.close_index.ensures) (rw c.front-2.ensures at c.more_filters.ensures) (rw c.put_key-n.ensures.1.1 at c.write_after.ensures))

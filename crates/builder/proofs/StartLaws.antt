-- What start answers, and that what it gives stands for nothing added yet.
use Prim.Native.Nat.{ℕ}
use mathlib.Core.Path.{◌≡◌, refl, sym, ap, ◌∙◌}
use mathlib.Core.Bool.{Bool, true, false, ◌&&◌}
use native.Mathlib.Omega.{arith}
use lib.ListN.{length-replicate}
use Rattle.block_builder.specs.Builder.{new_builder}
use Rattle.blocks.specs.Block.{packed, restarts_of}
use Rattle.block_builder.proofs.BuilderLaws.{counting_none}
use Rattle.blocks.proofs.CountLaws.{count_none}
use Rattle.bloom.specs.Choice.{choice_of}
use Rattle.filters.specs.FilterBlock.{no_filters, wait, made_bytes, starts}
use Rattle.table.specs.Checked.{Checked, pass, refuse, ◌>>=◌, ask}
use Rattle.table.specs.Options.{index_interval, options_fit}
use Rattle.table.specs.Build.{begin, written, index_pairs, filters_of}
use Rattle.table.specs.Runs.{Runs, filters_now, entries_of, restarts_in, held, between, overlay, overlaid, start_of}
use Rattle.table.specs.Counts.{no_counts}
use Rattle.table.proofs.CheckedLaws.{refuse_pass}
use Rattle.table.proofs.CountsLaws.{counts_begin_lem}
use Rattle.std.specs.Prelude.{Ok, Err}
use Rattle.table_block.specs.declared.refusal.Refusal.TheVariants as Short
use Rattle.table_block.specs.Refusals.{refusal}
use Rattle.builder.specs.declared.table_builder.Options as Given
use Rattle.builder.specs.declared.table_builder.Builder.{Builder}
use Rattle.builder.specs.State.{options_of, counts_in, lengths_of, runs_fit, begun, Stands}
use Rattle.builder.specs.Answers.{started, StartedIs}

-- tests one after the other that refuse with one number are one test
module _ (n : ℕ) where
  ask_four : (s t u v : Bool) → ask n s >>= (λ x. ask n t >>= (λ y. ask n u >>= (λ z. ask n v))) ≡ ask n (s && (t && (u && v)))
  unfolding ask ◌>>=◌
  ask_four true true true v = refl
  ask_four true true false v = refl
  ask_four true false u v = refl
  ask_four false t u v = refl

module _ (o : Given.Options) (r : Runs) where
  pub start_is : start_of (options_of o) r ≡ ask 1 (options_fit (options_of o)) >>= (λ u. ask 2 (runs_fit (choice_of o.filter) (lengths_of r)))
  unfolding start_of runs_fit lengths_of options_of
  start_is = ap (λ (k : Checked (Unit {0})). ask 1 (options_fit (options_of o)) >>= (λ u. k)) (ask_four 2 _ _ _ _)

  start_options : options_fit (options_of o) ≡ false → start_of (options_of o) r ≡ refuse 1
  unfolding ask ◌>>=◌
  start_options e = start_is ∙ rw e

  start_fits : options_fit (options_of o) ≡ true → start_of (options_of o) r ≡ ask 2 (runs_fit (choice_of o.filter) (lengths_of r))
  unfolding ask ◌>>=◌
  start_fits e = start_is ∙ rw e

  begun_counts : counts_in (begun o (lengths_of r)) ≡ no_counts (options_of o)
  unfolding begun counts_in no_counts options_of index_interval
  begun_counts =
      let e = (counting_none o.interval).counts ∙ count_none o.interval in
      rw e

  -- nothing stands in front of each run
  begun_runs : r ≡ overlaid (between (options_of o) begin) r
  unfolding overlaid overlay between begin held written entries_of restarts_in index_pairs packed restarts_of filters_now filters_of no_filters wait made_bytes starts
  begun_runs = refl

  pub begun_stands : start_of (options_of o) r ≡ pass tt → Stands (options_of o) begin (begun o (lengths_of r)) r
  unfolding begun new_builder options_of index_interval
  begun_stands e =
      record {
        options = refl;
        counts = begun_counts ∙ sym (counts_begin_lem (options_of o));
        interval = refl;
        index_interval = refl;
        whole = (length-replicate {A = ℕ} 1032 0, length-replicate {A = ℕ} 1032 0);
        short = (omega arith, omega arith);
        lengths = refl;
        going = refl;
        started = e;
        runs = begun_runs;
      }

  refused_start : {n : ℕ} → start_of (options_of o) r ≡ refuse n → StartedIs o r r (Err (refusal n))
  unfolding started
  refused_start h = record { said = rw h; kept = refl; stands = λ p. absurd (refuse_pass (sym h ∙ p)) }

  pub refused_options : {t : Bool} → t ≡ options_fit (options_of o) → t ≡ false → StartedIs o r r (Err Short.Options)
  refused_options e f = refused_start (start_options (sym e ∙ f))

  pub refused_runs : {t u : Bool} → t ≡ options_fit (options_of o) → t ≡ true → u ≡ runs_fit (choice_of o.filter) (lengths_of r) → u ≡ false
      → StartedIs o r r (Err Short.Short)
  unfolding ask
  refused_runs e f e' f' = refused_start {n = 2} (start_fits (sym e ∙ f) ∙ rw (sym e' ∙ f'))

  pub passed_start : {t u : Bool} {s : Builder} → t ≡ options_fit (options_of o) → t ≡ true → u ≡ runs_fit (choice_of o.filter) (lengths_of r) → u ≡ true → s ≡ begun o (lengths_of r)
      → StartedIs o r r (Ok s)
  unfolding started ask
  passed_start e f e' f' g = let h : start_of (options_of o) r ≡ pass tt = start_fits (sym e ∙ f) ∙ rw (sym e' ∙ f') in record { said = rw (h, g); kept = refl; stands = begun_stands }

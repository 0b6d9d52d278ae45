-- What is decided of a finish.
use Prim.Native.Nat.{ℕ}
use mathlib.Core.Path.{◌≡◌, sym, ap, ◌∙◌}
use Rattle.std.specs.Prelude.{Ok, Err}
use Rattle.table_block.specs.declared.refusal.Refusal.TheVariants.{Full}
use Rattle.table_block.proofs.RefusalLaws.{ok_is, err_is, ok_not_err, err_not_ok}
use mathlib.Core.Bool.{Bool, true, false, ◌&&◌, cond}
use lib.Dec.{leb}
use borrow.Author.Tests.{leb-true}
use Rattle.codec.proofs.Prelude.{both}
use Rattle.bloom.specs.Choice.{choice_of}
use Rattle.builder.specs.declared.table_builder.Builder.{Builder}
use Rattle.builder.specs.declared.table_builder.FilterSizes.{FilterSizes}
use Rattle.filters.specs.FilterCount.{FilterCount, count_last}
use Rattle.table.specs.Counts.{finished_size}
use Rattle.builder.specs.declared.table_builder.Lengths.{Lengths}
use Rattle.builder.specs.State.{options_of, counts_in}
use Rattle.builder.specs.Steps.{small, Small, Whole, filter_count_in, filters_in, last_state, last_filters, endable, EndingIs}

module _ (s : Builder) (l : Lengths) where
  ending_not : (Whole s → ◌≡◌ {A = ℕ} 5 (cond (small s && endable s l) 0 5)) → {d : Builder} → EndingIs s l (Err Full) d
  ending_not e {d} =
      record {
        kind = λ x q. sym (err_is q);
        answer = e;
        size = λ p q. err_not_ok q;
        small = λ p q. err_not_ok q;
        last = λ p q. err_not_ok q;
        sizes = λ p q. err_not_ok q;
        within = λ p q. err_not_ok q;
      }

  pub ending_large : {t : Bool} → t ≡ small s → t ≡ false → {d : Builder} → EndingIs s l (Err Full) d
  ending_large e f = ending_not (λ w. rw (sym e ∙ f))

  module _ (k : Small s) {t r : Bool} (e : t ≡ small s) (g : t ≡ true) (size : ℕ) (last : Builder) (f : FilterSizes) (es : Whole s → size ≡ finished_size (options_of s.options) (counts_in s)) (el : last ≡ last_state s)
      (ef : filter_count_in f ≡ count_last (choice_of s.options.filter) (filter_count_in (filters_in last)))
      (er : r ≡ leb size l.out && (leb f.bytes l.filters && (leb f.made l.offsets && leb last.indexed.bytes l.index))) where
    sizes_is : filter_count_in f ≡ last_filters s
    unfolding last_filters
    sizes_is = ef ∙ ap (λ (d : Builder). count_last (choice_of s.options.filter) (filter_count_in (filters_in d))) el

    small_yes : small s ≡ true
    small_yes = sym e ∙ g

    test_is : Whole s → endable s l ≡ r
    unfolding endable filter_count_in
    test_is w =
        let a = es w in
        let b = ap (λ (z : FilterCount). z.bytes) sizes_is in
        let c = ap (λ (z : FilterCount). z.made) sizes_is in
        let d = ap (λ (z : Builder). z.indexed.bytes) el in
        sym (er ∙ rw (a, b, c, d))

    pub ending_full : r ≡ false → EndingIs s l (Err Full) last
    ending_full n = ending_not (λ w. rw (small_yes, test_is w, n))

    pub ending_ok : r ≡ true → EndingIs s l (Ok (record { size = size; sizes = f })) last
    ending_ok n =
        let p = both (leb size l.out) _ (sym er ∙ n) in
        let q = both (leb f.bytes l.filters) _ p.1 in
        let v = both (leb f.made l.offsets) _ q.1 in
        record {
          kind = λ x y. ok_not_err y;
          answer = λ w. rw (small_yes, test_is w, n);
          size = λ x y w. rw (← ok_is y) (es w);
          small = λ x y. k;
          last = λ x y. el;
          sizes = λ x y. rw (← ok_is y) sizes_is;
          within = λ x y. rw (← ok_is y) (leb-true _ _ q.0, (leb-true _ _ v.0, leb-true _ _ v.1));
        }

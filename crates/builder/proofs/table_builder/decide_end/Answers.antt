-- `builder::table_builder::decide_end` meets its contract.
use mathlib.Core.Path.{sym, ◌∙◌}
use native.Mathlib.Omega.{arith}
use Rattle.builder.proofs.SizeLaws.{small_is, last_room, last_sizes, finished_is, index_exact}
use Rattle.builder.proofs.DecideLaws.{sane_is, last_short}
use Rattle.builder.proofs.EndLaws.{ending_large, ending_full, ending_ok}
use Rattle.builder.proofs.table_builder.decide_end.Goals as goal

pub returns-then-not-is_small : goal.returns-then-not-is_small
returns-then-not-is_small c = let a = c.args in ending_large a.s.now a.l c.is_small.ensures (c.if-not-is_small.true)

pub invariant_of-close_last : goal.invariant_of-close_last
invariant_of-close_last c = let x = sane_is c.args.s.now c.args.l c.requires.0 in
    record { small = small_is c.args.s.now x.options (sym c.is_small.ensures ∙ c.if-not-is_small.false); short = x.len }

pub last_made-f-requires : goal.last_made-f-requires
last_made-f-requires c = let x = sane_is c.args.s.now c.args.l c.requires.0 in
    let k = small_is c.args.s.now x.options (sym c.is_small.ensures ∙ c.if-not-is_small.false) in
    let r = last_room c.args.s.now k (last_short c.args.s.now x.len) _ c.close_last.ensures in
    rw c.filters_of.ensures (omega arith)

pub end_size-size-requires : goal.end_size-size-requires
end_size-size-requires c = let x = sane_is c.args.s.now c.args.l c.requires.0 in
    let k = small_is c.args.s.now x.options (sym c.is_small.ensures ∙ c.if-not-is_small.false) in
    let f = c.last_made-f in
    let r = last_sizes c.args.s.now k (last_short c.args.s.now x.len) _ f.result c.close_last.ensures (rw c.filters_of.ensures at f.ensures) in
    (r.2, r.0, r.1, omega (arith, c.size_estimate.ensures, r.3))

pub returns-then-not-end_fits : goal.returns-then-not-end_fits
returns-then-not-end_fits c = let x = sane_is c.args.s.now c.args.l c.requires.0 in
    let k = small_is c.args.s.now x.options (sym c.is_small.ensures ∙ c.if-not-is_small.false) in
    let f = c.last_made-f in
    let made = rw c.filters_of.ensures at f.ensures in
    let short = last_short c.args.s.now x.len in
    ending_full c.args.s.now c.args.l k c.is_small.ensures (c.if-not-is_small.false) _ _ _
    (λ w. c.end_size-size.ensures ∙ finished_is c.args.s.now k w short _ f.result c.close_last.ensures made (index_exact c.args.s.now k short _ c.close_last.ensures c.size_estimate.ensures))
    c.close_last.ensures made
    c.end_fits.ensures (c.if-not-end_fits.true)

pub returns : goal.returns
returns c = let x = sane_is c.args.s.now c.args.l c.requires.0 in
    let k = small_is c.args.s.now x.options (sym c.is_small.ensures ∙ c.if-not-is_small.false) in
    let f = c.last_made-f in
    let made = rw c.filters_of.ensures at f.ensures in
    let short = last_short c.args.s.now x.len in
    ending_ok c.args.s.now c.args.l k c.is_small.ensures (c.if-not-is_small.false) _ _ _
    (λ w. c.end_size-size.ensures ∙ finished_is c.args.s.now k w short _ f.result c.close_last.ensures made (index_exact c.args.s.now k short _ c.close_last.ensures c.size_estimate.ensures))
    c.close_last.ensures made
    c.end_fits.ensures (c.if-not-end_fits.false)

-- `bloom::filter::all_raised` meets its contract. The invariant: the places to go decide.
use Rattle.std.proofs.Common.{ℕ, ◌+◌, ◌-◌, ◌*◌, true, false, eqb, length, sym, ap, ◌∙◌, arith}
use Rattle.filters.specs.Filter.{places, bit, all_raised}
use Rattle.bloom.proofs.FilterCode.{place_is, places_start, raised_next, raised_none}
use Rattle.bloom.proofs.filter.all_raised.Goals as goal

pub loop-init : goal.loop-init
loop-init c = let a = c.args in
    ap (all_raised a.bits.now) (places_start a.k (8 * length a.bits.now) a.h _ c.probe_step-d.ensures)

pub returns-then-not-is_raised : goal.returns-then-not-is_raised
returns-then-not-is_raised c = let l = c.loop in
    let a = c.args in
    let s = a.bits.now in
    let m = 8 * length s in
    let p = place_is m c.span-n.result l.x c.span-n.ensures (omega arith) in
    let t = ap (λ (q : ℕ). eqb (bit s q) 1) (sym p) ∙ sym c.is_raised.ensures ∙ c.if-not-is_raised.true in
    raised_next s a.k l.counter m l.x _ false (omega arith) t ∙ l.invariant

pub loop-preserved : goal.loop-preserved
loop-preserved c = let l = c.loop in
    let a = c.args in
    let s = a.bits.now in
    let m = 8 * length s in
    let d = c.probe_step-d.result in
    let p = place_is m c.span-n.result l.x c.span-n.ensures (omega arith) in
    let t = ap (λ (q : ℕ). eqb (bit s q) 1) (sym p) ∙ sym c.is_raised.ensures ∙ c.if-not-is_raised.false in
    ap (λ (x : ℕ). all_raised s (places (a.k - (l.counter + 1)) m x d)) c.next_probe-x.ensures
    ∙ raised_next s a.k l.counter m l.x d true (omega arith) t
    ∙ l.invariant

pub returns : goal.returns
returns c = let l = c.loop in
    let a = c.args in
    raised_none a.bits.now a.k l.counter (8 * length a.bits.now) l.x _ (omega arith) ∙ l.invariant

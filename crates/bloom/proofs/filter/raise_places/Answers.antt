-- `bloom::filter::raise_places` meets its contract. The invariant: to raise the places to go is to raise all.
use Rattle.std.proofs.Common.{ℕ, ◌+◌, ◌-◌, ◌*◌, List, length, sym, ap, ap₂, ◌∙◌, arith}
use Rattle.filters.specs.Filter.{places, raise, raise_all}
use Rattle.bloom.proofs.FilterCode.{place_is, places_start, raise_more, raise_none}
use Rattle.bloom.proofs.filter.raise_places.Goals as goal

pub loop-init : goal.loop-init
loop-init c = let a = c.args in
    ap (raise_all a.bits.now) (places_start a.k (8 * length a.bits.now) a.h _ c.probe_step-d.ensures)

pub loop-preserved : goal.loop-preserved
loop-preserved c = let l = c.loop in
    let a = c.args in
    let m = 8 * length a.bits.now in
    let d = c.probe_step-d.result in
    let r = c.raise_bit.ensures ∙ ap (raise l.bits) (place_is m c.span-n.result l.x c.span-n.ensures (omega arith)) in
    ap₂ (λ (e : List ℕ) (x : ℕ). raise_all e (places (a.k - (l.counter + 1)) m x d)) r c.next_probe-x.ensures
    ∙ raise_more l.bits a.k l.counter m l.x d (omega arith)
    ∙ l.invariant

pub returns : goal.returns
returns c = let l = c.loop in
    let a = c.args in
    sym (raise_none l.bits a.k l.counter (8 * length a.bits.now) l.x _ (omega arith)) ∙ l.invariant

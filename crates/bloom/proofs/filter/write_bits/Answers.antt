-- `bloom::filter::write_bits` meets its contract. The invariant: to raise the bits of the hashes to go is to raise those of all.
use Rattle.std.proofs.Common.{◌≡◌, ℕ, ◌+◌, ◌*◌, List, length, get_or, drop, sym, ap, ◌∙◌, arith}
use Rattle.filters.specs.Filter.{places_of, raise_all, raise_keys}
use Rattle.bloom.proofs.FilterCode.{keys_more, keys_none}
use Rattle.bloom.proofs.filter.write_bits.Goals as goal

pub loop-h-preserved : goal.loop-h-preserved
loop-h-preserved c = let l = c.loop-h in
    let a = c.args in
    let m = 8 * length a.bits.now in
    let hs = a.hashes.now in
    let n : length l.bits ≡ length a.bits.now = omega (arith, c.fill.ensures.len) in
    let r = c.raise_places.ensures ∙ ap (λ (n : ℕ). raise_all l.bits (places_of a.k (8 * n) (get_or hs l.h-index 0))) n in
    ap (λ (s : List ℕ). raise_keys a.k m s (drop (l.h-index + 1) hs)) r
    ∙ keys_more a.k m l.bits hs l.h-index (omega arith)
    ∙ l.invariant

pub returns : goal.returns
returns c = let l = c.loop-h in
    let a = c.args in
    sym (keys_none a.k (8 * length a.bits.now) l.bits a.hashes.now l.h-index (omega arith)) ∙ l.invariant

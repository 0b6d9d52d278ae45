-- `bloom::filter::raise_places` meets its contract. The invariant: to raise the places to go is to raise all.
use Rattle.std.proofs.Common.{◌≡◌, ◌-◌, ◌*◌, length}
use Rattle.filters.specs.Filter.{places, places_of, raise_all}
use Rattle.bloom.proofs.filter.raise_places.Given as goal

abbrev pub invariant-loop : goal.invariant-loop
invariant-loop l = let m = 8 * length l.initial.bits in raise_all l.bits (places (l.k - l.counter) m l.x l.d) ≡ raise_all l.initial.bits (places_of l.k m l.h)

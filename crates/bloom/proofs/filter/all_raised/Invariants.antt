-- `bloom::filter::all_raised` meets its contract. The invariant: the places to go decide.
use Rattle.std.proofs.Common.{◌≡◌, ◌-◌, ◌*◌, length}
use Rattle.filters.specs.Filter.{places, places_of, all_raised}
use Rattle.bloom.proofs.filter.all_raised.Given as goal

abbrev pub invariant-loop : goal.invariant-loop
invariant-loop l = all_raised l.bits (places (l.k - l.counter) (8 * length l.bits) l.x l.d) ≡ all_raised l.bits (places_of l.k (8 * length l.bits) l.h)

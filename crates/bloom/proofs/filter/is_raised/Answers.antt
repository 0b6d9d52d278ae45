-- `bloom::filter::is_raised` meets its contract.
use Rattle.std.proofs.Common.{refl}
use Rattle.filters.specs.Filter.{bit}
use Rattle.bloom.proofs.filter.is_raised.Goals as goal

pub returns : goal.returns
unfolding bit
returns c = refl

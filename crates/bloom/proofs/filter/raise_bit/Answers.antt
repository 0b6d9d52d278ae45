-- `bloom::filter::raise_bit` meets its contract.
use Rattle.bloom.proofs.FilterCode.{one_raised}
use Rattle.bloom.proofs.filter.raise_bit.Goals as goal

pub returns : goal.returns
returns c = one_raised c.args.bits.now c.args.p

-- `bloom::filter::filter_size` meets its contract.
use Rattle.std.proofs.Common.{◌*◌, arith}
use Rattle.filters.proofs.FilterLaws.{size_eighths}
use Rattle.bloom.proofs.filter.filter_size.Goals as goal

pub returns : goal.returns
returns c = omega (arith, size_eighths (c.args.n * c.args.bits), c.clamp.ensures)

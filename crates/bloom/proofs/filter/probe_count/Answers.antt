-- `bloom::filter::probe_count` meets its contract: the product of floats is computed at each number of bits up to 64.
use Rattle.std.proofs.Common.{arith}
use Rattle.filters.specs.Filter.{probes}
use Rattle.bloom.proofs.ProbeLaws.{product, above, under, cut}
use Rattle.bloom.proofs.filter.probe_count.Goals as goal

pub returns-then-bits-gt64 : goal.returns-then-bits-gt64
unfolding probes
returns-then-bits-gt64 c = omega arith

pub truncating_f32_to_u64-n-requires : goal.truncating_f32_to_u64-n-requires
unfolding product
truncating_f32_to_u64-n-requires c = let b = c.args.bits in record { lower_bound = above b (omega arith); upper_bound = under b (omega arith) }

pub returns : goal.returns
unfolding probes product
returns c = omega (arith, cut c.args.bits (omega arith), c.truncating_f32_to_u64-n.ensures, c.clamp.ensures)

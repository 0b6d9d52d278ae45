-- `bloom::filter::step` meets its contract.
use Rattle.std.proofs.Common.{ℕ, ◌+◌, ◌/◌, ◌^◌, ap}
use lib.Bits.{bit_xor}
use Rattle.filters.specs.Filter.{hash_step}
use Rattle.bloom.proofs.HashLaws.{low_bits}
use Rattle.bloom.proofs.filter.step.Goals as goal

pub returns : goal.returns
unfolding hash_step
returns c = let a = c.args in
    ap (λ (g : ℕ). bit_xor g (g / 2 ^ a.k)) (low_bits (a.h + a.x))

-- `bloom::filter::write_bits` meets its contract. The invariant: to raise the bits of the hashes to go is to raise those of all.
use Rattle.std.proofs.Common.{◌≡◌, ◌*◌, length, drop, replicate}
use Rattle.filters.specs.Filter.{raise_keys}
use Rattle.bloom.proofs.filter.write_bits.Given as goal

abbrev pub invariant-loop-h : goal.invariant-loop-h
invariant-loop-h l = let n = length l.fn.bits in
    raise_keys l.k (8 * n) l.bits (drop l.h-index l.hashes) ≡ raise_keys l.k (8 * n) (replicate n 0) l.hashes

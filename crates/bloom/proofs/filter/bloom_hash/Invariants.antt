-- `bloom::filter::bloom_hash` meets its contract. The invariant: the bytes to go, from the state, give the hash of all.
use Rattle.std.proofs.Common.{◌≡◌, ◌*◌, drop}
use Rattle.filters.specs.Filter.{hash_from, hash}
use Rattle.bloom.proofs.filter.bloom_hash.Given as goal

abbrev pub invariant-loop-word : goal.invariant-loop-word
invariant-loop-word l = hash_from l.h (drop (4 * l.word-index) l.data) ≡ hash l.data

-- `bloom::filter::bloom_hash` meets its contract. The invariant: the bytes to go, from the state, give the hash of all.
use Rattle.std.proofs.Common.{◌≡◌, ℕ, ◌+◌, ◌*◌, ◌/◌, List, [], length, get_or, drop, ap, ◌∙◌, arith}
use Rattle.std.specs.Int.{w32, from_le_bytes}
use lib.Bits.{bit_xor}
use Rattle.codec.specs.Bytes.{part, number_of}
use Rattle.codec.proofs.BytesLaws.{part_length}
use Rattle.codec.proofs.FixedLaws.{bytes_number}
use Rattle.filters.specs.Filter.{hash_step, hash_from, hash}
use Rattle.bloom.proofs.HashLaws.{low_bits, chunk_is, word_in}
use Rattle.bloom.proofs.filter.bloom_hash.Goals as goal

pub loop-word-init : goal.loop-word-init
unfolding hash
loop-word-init c = let s = c.args.«data».now in
    ap (λ (n : ℕ). hash_from (bit_xor 0xbc9f_1d34 n) s) (low_bits (length s))

pub loop-word-preserved : goal.loop-word-preserved
loop-word-preserved c = let l = c.loop-word in
    let s = c.args.«data».now in
    let i = l.word-index in
    let n : length c.as_chunks.result.0.now ≡ length s / 4 = c.as_chunks.ensures.front_len in
    let w = ap (λ (ws : List (List ℕ)). get_or ws i []) c.as_chunks.ensures.front ∙ chunk_is s (length s / 4) i (omega arith) in
    let x : c.from_le_bytes.result ≡ number_of (part s (4 * i) 4) = omega (arith, c.from_le_bytes.ensures ∙ ap (from_le_bytes w32) w, bytes_number 4 (part s (4 * i) 4) (part_length s (4 * i) 4 (omega arith))) in
    ap (λ (g : ℕ). hash_from g (drop (4 * (i + 1)) s)) (c.step-h.ensures ∙ ap (hash_step 16 l.h) x)
    ∙ word_in l.h s i (omega arith)
    ∙ l.invariant

pub last_step-requires : goal.last_step-requires
last_step-requires c = omega (arith, c.as_chunks.ensures.back_len)

pub returns : goal.returns
returns c = let l = c.loop-word in
    let s = c.args.«data».now in
    let n : length c.as_chunks.result.0.now ≡ length s / 4 = c.as_chunks.ensures.front_len in
    let e : length s / 4 * 4 ≡ 4 * l.word-index = omega arith in
    c.last_step.ensures ∙ ap (hash_from l.h) (c.as_chunks.ensures.back ∙ ap (λ (m : ℕ). drop m s) e) ∙ l.invariant

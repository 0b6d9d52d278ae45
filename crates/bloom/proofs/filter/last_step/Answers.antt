-- `bloom::filter::last_step` meets its contract.
use Rattle.std.proofs.Common.{◌≡◌, ◌<◌, length, sym, ap, ◌∙◌, arith}
use Rattle.std.specs.Int.{w32, from_le_bytes}
use Rattle.codec.specs.Bytes.{number_of}
use Rattle.codec.proofs.FixedLaws.{bytes_number}
use Rattle.filters.specs.Filter.{hash_step}
use Rattle.bloom.proofs.HashLaws.{hash_rest, hash_none}
use Rattle.bloom.proofs.filter.last_step.Goals as goal
use Rattle.bloom.proofs.filter.last_step.Goals.{in-len1, in-len2, in-len3-up}

pub returns-in-empty : goal.returns-in-empty
returns-in-empty c = let a = c.args in sym (hash_none a.h a.rest.now (omega arith))

pub returns : goal.returns
returns c = let a = c.args in
    let s = a.rest.now in
    let e = c.from_le_bytes.ensures in
    let p : (0 < length s) × (c.from_le_bytes.result ≡ number_of s) =
    elim c.if-rest-lt2.branch [
      | in-len1 w ↦ (omega arith, omega (arith, e ∙ ap (from_le_bytes w32) w.word-is, bytes_number 1 s (omega arith)))
      | in-len2 w ↦ (omega arith, omega (arith, e ∙ ap (from_le_bytes w32) w.word-is, bytes_number 2 s (omega arith)))
      | in-len3-up w ↦ (omega arith, omega (arith, e ∙ ap (from_le_bytes w32) w.word-is, bytes_number 3 s (omega arith)))
    ] in
    c.step.ensures ∙ ap (hash_step 24 a.h) p.1 ∙ sym (hash_rest a.h s p.0 c.requires)

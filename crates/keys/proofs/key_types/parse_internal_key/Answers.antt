-- `keys::key_types::parse_internal_key` meets its contract.
use mathlib.Core.Path.{◌≡◌, ap, ◌∙◌}
use native.Mathlib.Omega.{arith}
use Prim.Native.Nat.{ℕ, ◌-◌, ◌/◌, ◌%◌, ◌≤◌}
use lib.ListN.{length, length-drop}
use Rattle.codec.specs.Bytes.{number_of}
use Rattle.codec.proofs.FixedLaws.{bytes_number}
use Rattle.keys.specs.Answers.{kind_answer}
use Rattle.keys.specs.Order.{tag_of}
use Rattle.keys.proofs.AnswerLaws.{key_short, key_long, tag_long}
use Rattle.keys.proofs.key_types.parse_internal_key.Goals as goal

pub returns-in_err-word : goal.returns-in_err-word
returns-in_err-word c = c.from_residual.ensures ∙ key_short c.args.key.now c.in_err-word.ensures.cases

pub returns : goal.returns
returns c =
    let k = c.args.key.now in
    let (word, tag, long) = c.in_ok-word.ensures.cases in
    let m : 8 ≤ length k = omega arith in
    let l : length c.in_ok-word.tag.now ≡ 8 = omega (arith, ap length tag, length-drop (length k - 8) k) in
    let n : c.from_le_bytes.result ≡ number_of c.in_ok-word.tag.now = omega (arith, c.from_le_bytes.ensures, bytes_number 8 c.in_ok-word.tag.now l) in
    let t : c.from_le_bytes.result ≡ tag_of k = n ∙ tag_long k m tag in
    let p = c.parse_tag-kind.ensures in
    key_long k m (omega arith) (p.1 ∙ ap (λ (t : ℕ). t / 256) t) (p.0 ∙ ap (λ (t : ℕ). kind_answer (t % 256)) t)

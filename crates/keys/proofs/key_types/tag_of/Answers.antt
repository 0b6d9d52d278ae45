-- `keys::key_types::tag_of` meets its contract.
use mathlib.Core.Path.{◌≡◌, ap, ◌∙◌}
use native.Mathlib.Omega.{arith}
use lib.ListN.{length}
use Rattle.codec.specs.Bytes.{number_of}
use Rattle.codec.proofs.FixedLaws.{bytes_number}
use Rattle.keys.proofs.AnswerLaws.{tag_short, tag_long}
use Rattle.keys.proofs.key_types.tag_of.Goals as goal

pub returns-in-Some : goal.returns-in-Some
returns-in-Some c =
    let k = c.args.key.now in
    let (m, w) = c.in-Some.ensures.cases in
    let l : length c.in-Some.tag.now ≡ 8 = ap length w.same ∙ w.long in
    let e : c.from_le_bytes.result ≡ number_of c.in-Some.tag.now = omega (arith, c.from_le_bytes.ensures, bytes_number 8 c.in-Some.tag.now l) in
    e ∙ tag_long k m w.same

pub returns-in-None : goal.returns-in-None
returns-in-None c = c.number_of.ensures ∙ tag_short c.args.key.now c.in-None.ensures.cases

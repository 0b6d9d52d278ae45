-- `checksum::trailer::trailer_stands` meets its contract: what follows the block is the type and the number of its checksum.
use Rattle.std.proofs.Common.{◌≡◌, ℕ, ◌+◌, ◌≤◌, eqb, length, sym, ap, ◌∙◌, ap₂, arith}
use Rattle.std.specs.Prelude.{Option, Some}
use Rattle.std.specs.Option.{option_eq}
use Rattle.codec.specs.Bytes.{part, number_of}
use Rattle.checksum.specs.Checksum.{seal_of}
use Rattle.codec.proofs.BytesLaws.{part_between}
use Rattle.codec.proofs.FixedLaws.{number_in_lem}
use Rattle.codec.proofs.GivenLaws.{gives_some}
use Rattle.checksum.proofs.TrailerLaws.{stands_short, stands_type, stands_sum}
use Rattle.checksum.proofs.trailer.trailer_stands.Goals as goal
use Rattle.checksum.proofs.trailer.trailer_stands.Goals.{then-t-end-lt5-via-then-t-end-lt5, then-t-end-lt5-via-else-t-end-lt5+then-t-end-ne0}

pub returns-in_default : goal.returns-in_default
returns-in_default c = stands_short _ _ _ (omega (arith, c.in_default.ensures))

pub returns-then-t-end-lt5 : goal.returns-then-t-end-lt5
returns-then-t-end-lt5 c = let a = c.args in
    let e : c.in-Ok.end ≡ a.offset + a.size = c.in-Ok.ensures.1 in
    elim c.then-t-end-lt5.branch [
      | then-t-end-lt5-via-then-t-end-lt5 w ↦ stands_short _ _ _ (omega (arith, w.if-t-end-lt5.true))
      | then-t-end-lt5-via-else-t-end-lt5+then-t-end-ne0 w ↦ stands_type _ _ _ (omega (arith, w.if-t-end-lt5.false, c.in-Ok.ensures)) (rw e at w.if-t-end-ne0.true)
    ]

pub returns : goal.returns
returns c = let a = c.args in
    let e : c.in-Ok.end ≡ a.offset + a.size = c.in-Ok.ensures.1 in
    let t = a.t.now in
    let h : c.in-Ok.end + 1 + 4 ≤ length t = omega (arith, c.if-t-end-lt5.false, c.in-Ok.ensures) in
    c.eq.ensures
    ∙ ap₂ (λ (x y : Option ℕ). option_eq eqb x y) (c.read.ensures ∙ sym (gives_some (number_in_lem 4 t (c.in-Ok.end + 1) h))) (ap Some c.seal.ensures)
    ∙ rw e (ap (eqb (number_of (part t (a.offset + a.size + 1) 4))) (ap seal_of (part_between t a.offset a.size)) ∙ stands_sum _ _ _ (omega arith) (λ i. (c.type_inv.t i).fits) (rw e at c.if-t-end-ne0.false))

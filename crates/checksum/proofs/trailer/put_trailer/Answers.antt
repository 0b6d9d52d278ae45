-- `checksum::trailer::put_trailer` meets its contract: the type and then the checksum are the trailer.
use Rattle.std.proofs.Common.{◌≡◌, ◌+◌, ap, ◌∙◌, arith}
use Rattle.checksum.specs.Checksum.{seal_of}
use Rattle.codec.specs.Bytes.{part}
use Rattle.codec.proofs.BytesLaws.{part_between}
use Rattle.codec.proofs.PutLaws.{wrote_exit}
use Rattle.checksum.proofs.TrailerLaws.{trailer_length, wrote_trailer}
use Rattle.checksum.proofs.trailer.put_trailer.Goals as goal

pub returns-in_err-end : goal.returns-in_err-end
returns-in_err-end c = let a = c.args in
    wrote_exit c.from_residual.ensures.0 (omega (arith, c.in_err-end.ensures, trailer_length (part a.out.now a.offset a.size)))

pub returns-in_err-end_of : goal.returns-in_err-end_of
returns-in_err-end_of c = let a = c.args in
    wrote_exit c.from_residual-in_err-end_of.ensures.0 (omega (arith, c.in_ok-end.ensures, c.in_err-end_of.ensures, trailer_length (part a.out.now a.offset a.size)))

pub returns : goal.returns
returns c = let a = c.args in
    let e : c.in_ok-end.end ≡ a.offset + a.size = c.in_ok-end.ensures.1 in
    wrote_trailer _ _ _ _ _ _ (omega (arith, c.in_ok-end.ensures, c.in_ok-end_of.ensures)) (c.seal-sum.ensures ∙ ap seal_of (rw e (part_between a.out.now a.offset a.size))) (rw e at c.write.ensures)

-- `checksum::trailer::seal` meets its contract: the checksum goes on over the type.
use Rattle.std.proofs.Common.{ℕ, [], ◌∷◌, ap, ◌∙◌}
use Rattle.checksum.specs.Checksum.{crc_mask, crc_extend}
use Rattle.checksum.proofs.TrailerLaws.{seal_is}
use Rattle.checksum.proofs.trailer.seal.Goals as goal

pub returns : goal.returns
returns c = c.mask_crc.ensures
    ∙ ap crc_mask (c.extend-2.ensures ∙ ap (λ (x : ℕ). crc_extend x (0 ∷ [])) c.extend.ensures)
    ∙ seal_is c.args.contents.now

-- `table_block::footer::ends_in_magic` meets its contract: the last 8 bytes are the magic just where they make its number.
use mathlib.Core.Path.{refl, sym, ◌∙◌}
use Rattle.table_block.proofs.FooterLaws.{magic_there, magic_read}
use Rattle.table_block.proofs.footer.ends_in_magic.Goals as goal

pub unwrap-requires : goal.unwrap-requires
unwrap-requires c = let r = c.read.ensures ∙ magic_there _ c.requires in rw r refl

pub returns : goal.returns
returns c = magic_read _ c.requires (λ i. (c.type_inv.table i).fits) (sym c.read.ensures ∙ c.unwrap.ensures)

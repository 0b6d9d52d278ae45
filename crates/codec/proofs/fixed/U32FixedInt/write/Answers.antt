-- `write` of a u32 meets its contract: its bytes, least first, are the low bytes of the number.
use mathlib.Core.Path.{◌∙◌}
use Rattle.codec.proofs.FixedLaws.{le_bytes}
use Rattle.codec.proofs.PutLaws.{wrote_as}
use Rattle.codec.proofs.fixed.U32FixedInt.write.Goals as goal

pub returns : goal.returns
returns c = wrote_as (c.to_le_bytes.ensures ∙ le_bytes 4 c.args.self) c.put_bytes.ensures

-- `read` of a u32 meets its contract: the bytes at the place, least first, make the number there.
use mathlib.Core.Path.{ap, ◌∙◌}
use mathlib.Core.Option.{some}
use native.Mathlib.Omega.{arith}
use Rattle.codec.proofs.FixedLaws.{chunk_number}
use Rattle.codec.proofs.GivenLaws.{gives_some}
use Rattle.codec.proofs.fixed.U32FixedInt.read.Goals as goal

pub returns : goal.returns
returns c = gives_some (chunk_number 4 c.args.s.now c.args.at c.in_ok-chunk_at.ensures ∙ ap some (omega (arith, c.from_le_bytes.ensures)))

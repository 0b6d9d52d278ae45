-- `block_reader::block::is_handle` meets its contract.
use mathlib.Core.Path.{ap, ◌∙◌}
use Rattle.std.specs.Prelude.{is_some}
use Rattle.block_reader.proofs.FilledLaws.{one_handle_is}
use Rattle.block_reader.proofs.block.is_handle.Goals as goal

pub returns : goal.returns
returns c = c.is_some.ensures ∙ ap is_some c.one_handle.ensures ∙ one_handle_is _

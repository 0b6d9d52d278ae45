-- `block_reader::block::Block::restart` meets its contract: all restarts are there.
use mathlib.Core.Path.{◌≡◌, refl, sym, ◌∙◌}
use native.Mathlib.Omega.{arith}
use Rattle.std.specs.Prelude.{Some}
use Rattle.std.proofs.lemmas.Option.{same_Some}
use Rattle.block_reader.specs.Steps.{restart_at}
use Rattle.block_reader.proofs.LayoutLaws.{restart_given}
use Rattle.block_reader.proofs.block.Block.restart.Goals as goal
use Rattle.block_reader.proofs.block.Block.restart.Goals.{After-read}

read : (c : After-read) → c.read.result ≡ Some (restart_at c.args.self.now.bytes.now c.args.self.now.end c.args.j)
read c = let b = c.args.self.now in c.read.ensures ∙ restart_given b.bytes.now b.end c.args.j (omega (arith, b.laid.fits, c.requires))

pub unwrap-requires : goal.unwrap-requires
unwrap-requires c = let r = read (goal.at.unwrap-requires c).After-read in rw r refl

pub returns : goal.returns
returns c = same_Some _ _ (sym c.unwrap.ensures ∙ read (goal.at.returns c).After-read)

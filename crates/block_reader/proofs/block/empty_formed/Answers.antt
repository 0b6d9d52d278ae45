-- `block_reader::block::empty_formed` meets its contract.
use mathlib.Core.Path.{refl, sym}
use mathlib.Core.Logic.{inl, inr}
use lib.Dec.{eqb}
use Rattle.blocks.specs.Formed.{enough}
use Rattle.block_reader.specs.Said.{kind_of}
use Rattle.block_reader.proofs.FilledLaws.{empty_data, empty_other}
use Rattle.block_reader.proofs.block.empty_formed.Goals as goal

pub returns-in-Data : goal.returns-in-Data
returns-in-Data c = sym (empty_data (eqb c.args.count 1) c.in-Data.is)

pub returns-in-Index : goal.returns-in-Index
unfolding kind_of enough
returns-in-Index c = sym (elim c.in-Index.is [ inl e ↦ empty_other (eqb c.args.count 1) e refl | inr e ↦ empty_other (eqb c.args.count 1) e refl ])

-- `pieces::block::salevoni_block_add` meets its contract.
use mathlib.Core.Path.{refl}
use Rattle.pieces.proofs.block.salevoni_block_add.Goals as goal

pub returns-in-Ok : goal.returns-in-Ok
returns-in-Ok c = record { answer = record { answer = _; block = c.add.new.self }; shown = refl; is = c.in-Ok.ensures }

pub returns-in-Err : goal.returns-in-Err
returns-in-Err c = record { answer = record { answer = _; block = c.add.new.self }; shown = refl; is = c.in-Err.ensures }

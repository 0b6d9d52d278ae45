-- `builder::table_builder::room` meets its contract.
use Rattle.table.specs.Runs.{room_of}
use Rattle.builder.proofs.table_builder.room.Goals as goal

pub returns : goal.returns
unfolding room_of
returns c = cc

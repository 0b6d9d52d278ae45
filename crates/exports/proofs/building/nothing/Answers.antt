-- `exports::building::nothing` meets its contract.
use Rattle.builder.specs.State.{begun}
use Rattle.exports.specs.Building.{state_out}
use Rattle.exports.proofs.building.nothing.Goals as goal

pub returns : goal.returns
unfolding state_out begun
returns c = rw (c.new.ensures, c.new-2.ensures)

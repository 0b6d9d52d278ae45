-- the builder of a state: the filter choice by its numbers
use Rattle.exports.specs.Building.{builder_in}
use Rattle.exports.proofs.building.BuilderFromSalevoniState.from.Goals as goal

pub returns : goal.returns
unfolding builder_in
returns c = rw c.filter_in.ensures

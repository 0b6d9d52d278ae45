-- Each byte takes the line further, and there are no more than the run has room for.
use Rattle.std.proofs.Common.{length, ◌≤◌}
use Rattle.replay.proofs.fields.Fields.field.Given as goal

abbrev pub invariant-loop-b : goal.invariant-loop-b
invariant-loop-b l = l.len ≤ length l.run

abbrev pub decreases-loop-b : goal.decreases-loop-b
decreases-loop-b l = length l.self.rest.now

-- Digit after digit, to the end of a line.
use Rattle.std.proofs.Common.{length, ◌≤◌}
use Rattle.replay.proofs.fields.Fields.number.Given as goal

abbrev pub invariant-loop-b : goal.invariant-loop-b
invariant-loop-b l = length l.self.rest.now ≤ length l.fn.self.rest.now

abbrev pub decreases-loop-b : goal.decreases-loop-b
decreases-loop-b l = length l.self.rest.now

-- `codec::limits::within` meets its contract.
use borrow.Author.Tests.{le-leb, lt-leb}
use Rattle.codec.specs.Limits.{within}
use Rattle.codec.proofs.limits.within.Goals as goal

pub returns-then-x-low : goal.returns-then-x-low
unfolding within
returns-then-x-low c = rw (lt-leb c.args.low c.args.x c.if-x-low.true)

pub returns : goal.returns
unfolding within
returns c = rw (le-leb c.args.low c.args.x c.if-x-low.false)

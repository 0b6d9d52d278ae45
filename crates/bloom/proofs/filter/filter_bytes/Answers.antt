-- `bloom::filter::filter_bytes` meets its contract.
use Rattle.std.proofs.Common.{ap, ◌∙◌, arith}
use Rattle.bloom.specs.Choice.{choice_of}
use Rattle.filters.specs.FilterCount.{filter_bytes_of}
use Rattle.bloom.proofs.FilterCode.{no_bytes_none, bytes_some}
use Rattle.filters.proofs.FilterCountLaws.{no_hashes}
use Rattle.bloom.proofs.filter.filter_bytes.Goals as goal

pub returns-in_default : goal.returns-in_default
returns-in_default c = let a = c.args in omega (arith, no_bytes_none a.choice a.n c.in_default.is)

pub returns-then-n-eq0 : goal.returns-then-n-eq0
returns-then-n-eq0 c = let a = c.args in omega (arith, ap (filter_bytes_of (choice_of a.choice)) c.if-n-eq0.true ∙ no_hashes (choice_of a.choice))

pub returns-else-n-eq0 : goal.returns-else-n-eq0
returns-else-n-eq0 c = let a = c.args in omega (arith, c.filter_size.ensures, bytes_some a.choice a.n c.in-Some.is c.if-n-eq0.false)

-- `block_builder::block_builder::BlockBuilder::finish` meets its contract.
use native.Mathlib.Omega.{arith}
use lib.ListN.{take}
use Rattle.codec.proofs.PutLaws.{wrote_exit}
use Rattle.blocks.proofs.BuildLaws.{tail_length}
use Rattle.block_builder.proofs.BuilderCode.{tail_none, tail_some}
use Rattle.block_builder.proofs.block_builder.BlockBuilder.finish.Goals as goal

pub returns-in_err-end : goal.returns-in_err-end
returns-in_err-end c = let a = c.args in
    wrote_exit c.from_residual.ensures.0 (omega (arith, tail_length (take a.self.now.restarts a.restarts.now), c.in_err-end.ensures))

pub returns-then-n-eq0 : goal.returns-then-n-eq0
returns-then-n-eq0 c = let a = c.args in
    rw (← tail_none a.restarts.now a.self.now.restarts _ c.min-n.ensures c.if-n-eq0.true, ← c.in_ok-end.ensures.1) c.put_tail.ensures

pub returns-else-n-eq0 : goal.returns-else-n-eq0
returns-else-n-eq0 c = let a = c.args in
    rw (← tail_some a.restarts.now a.self.now.restarts _ c.min-n.ensures c.if-n-eq0.false, ← c.in_ok-end.ensures.1) c.put_tail-else-n-eq0.ensures

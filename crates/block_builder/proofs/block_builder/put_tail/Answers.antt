-- `block_builder::block_builder::put_tail` meets its contract.
use native.Mathlib.Omega.{arith}
use lib.ListN.{length}
use Rattle.codec.specs.Bytes.{bytes_of}
use Rattle.codec.proofs.BytesLaws.{bytes_length, fours_length, bytes_low}
use Rattle.codec.proofs.PutLaws.{wrote_exit, wrote_then, never_first}
use Rattle.block_builder.proofs.BuilderCode.{plain_length}
use Rattle.block_builder.proofs.block_builder.put_tail.Goals as goal

pub returns-in_err-end_of : goal.returns-in_err-end_of
returns-in_err-end_of c = let a = c.args in
    wrote_exit c.from_residual.ensures.0 (omega (arith, plain_length a.restarts.now (length a.restarts.now), c.in_err-end_of.ensures))

pub returns-in_err-count : goal.returns-in_err-count
returns-in_err-count c = let a = c.args in
    let n = length a.restarts.now in
    absurd (never_first (bytes_of 4 n) (omega (arith, plain_length a.restarts.now n, c.in_ok-end_of.ensures)) c.write_u32s.ensures c.in_err-count.was)

pub returns : goal.returns
returns c = let a = c.args in
    let n = length a.restarts.now in
    wrote_then _ _ _ _ _ _ _ _ _ (omega (arith, fours_length a.restarts.now, bytes_length 4 n, c.in_ok-end_of.ensures)) c.write_u32s.ensures c.in_ok-count.was (rw bytes_low at c.write.ensures)

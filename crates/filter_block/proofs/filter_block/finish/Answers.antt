-- `filter_block::filter_block::finish` meets its contract: there is room, so that each part is written behind the one before.
use Prim.Native.Nat.{◌%◌, ◌^◌}
use native.Mathlib.Omega.{arith}
use lib.ListN.{length}
use Rattle.codec.proofs.BytesLaws.{bytes_length, fours_length}
use Rattle.codec.proofs.PutLaws.{wrote_exit, wrote_never}
use Rattle.filters.proofs.FilterBlockLaws.{block_of_long}
use Rattle.filter_block.proofs.MakeLaws.{wrote_block}
use Rattle.filter_block.proofs.filter_block.finish.Goals as goal

pub returns-in_err-array : goal.returns-in_err-array
returns-in_err-array c = let a = c.args in
    wrote_exit c.from_residual.ensures.0 (omega (arith, c.in_err-array.ensures, block_of_long a.filters.now a.offsets.now))

pub returns-in_err-end : goal.returns-in_err-end
returns-in_err-end c = let a = c.args in
    wrote_exit c.from_residual-in_err-end.ensures.0 (omega (arith, c.in_ok-array.ensures, c.in_err-end.ensures, block_of_long a.filters.now a.offsets.now))

pub returns-in_err-end_of : goal.returns-in_err-end_of
returns-in_err-end_of c = let a = c.args in
    wrote_exit c.from_residual-in_err-end_of.ensures.0 (omega (arith, c.in_ok-array.ensures, c.in_ok-end.ensures, c.in_err-end_of.ensures, block_of_long a.filters.now a.offsets.now))

pub returns-in_err-put_bytes : goal.returns-in_err-put_bytes
returns-in_err-put_bytes c = absurd (wrote_never _ _ _ _ _ (omega (arith, c.in_ok-array.ensures)) c.put_bytes.ensures c.in_err-put_bytes.was)

pub returns-in_err-write_u32s : goal.returns-in_err-write_u32s
returns-in_err-write_u32s c = absurd (wrote_never _ _ _ _ _ (omega (arith, c.in_ok-end.ensures, fours_length c.args.offsets.now)) c.write_u32s.ensures c.in_err-write_u32s.was)

pub returns-in_err-write : goal.returns-in_err-write
returns-in_err-write c = absurd (wrote_never _ _ _ _ _ (omega (arith, c.in_ok-end_of.ensures, bytes_length 4 (length c.args.filters.now % 2 ^ 32))) c.write.ensures c.in_err-write.was)

pub returns : goal.returns
returns c = let a = c.args in
    wrote_block a.out.now a.at c.in_ok-array.array c.in_ok-end.end a.filters.now a.offsets.now _ _ _ _ _ _
    c.in_ok-array.ensures.1 c.in_ok-end.ensures.1 c.in_ok-end_of.ensures.0 c.put_bytes.ensures c.write_u32s.ensures c.write.ensures

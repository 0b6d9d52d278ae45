-- `codec::blockhandle::encode_to` meets its contract: there is room for both, so that no write is refused.
use native.Mathlib.Omega.{arith}
use lib.ListN.{length-append}
use Rattle.codec.specs.Varint.{varint_bytes, handle_bytes}
use Rattle.codec.proofs.VarintLaws.{varint_bytes_length}
use Rattle.codec.proofs.PutLaws.{wrote_exit, wrote_never, wrote_then}
use Rattle.codec.proofs.blockhandle.encode_to.Goals as goal

pub overflow_add-varint_len : goal.overflow_add-varint_len
overflow_add-varint_len c = let a = c.args in
    omega (arith, c.varint_len.ensures, c.varint_len-2.ensures, varint_bytes_length a.handle.offset, varint_bytes_length a.handle.size)

pub returns-in_err-end_of : goal.returns-in_err-end_of
unfolding handle_bytes
returns-in_err-end_of c = let a = c.args in
    wrote_exit c.from_residual.ensures.0 (omega (arith, length-append (varint_bytes a.handle.offset) (varint_bytes a.handle.size), c.in_err-end_of.ensures, c.varint_len.ensures, c.varint_len-2.ensures))

pub returns-in_err-next : goal.returns-in_err-next
returns-in_err-next c = absurd (wrote_never _ _ _ _ _ (omega (arith, c.varint_len.ensures, c.varint_len-2.ensures, c.in_ok-end_of.ensures)) c.write_varint.ensures c.in_err-next.was)

pub returns : goal.returns
unfolding handle_bytes
returns c = wrote_then _ _ _ _ _ _ _ _ _ (omega (arith, c.varint_len.ensures, c.varint_len-2.ensures, c.in_ok-end_of.ensures)) c.write_varint.ensures c.in_ok-next.was c.write_varint-2.ensures

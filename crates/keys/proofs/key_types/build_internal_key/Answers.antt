-- `keys::key_types::build_internal_key` meets its contract: there is room for both, so that no write is refused.
use mathlib.Core.Path.{ap, ◌∙◌}
use Prim.Native.Nat.{ℕ, ◌+◌, ◌*◌, ◌%◌, ◌^◌}
use Rattle.codec.specs.Bytes.{bytes_of}
use Rattle.codec.proofs.PutLaws.{wrote_exit, wrote_never, wrote_then, wrote_as}
use Rattle.codec.proofs.BytesLaws.{bytes_length}
use Rattle.keys.specs.Order.{internal}
use Rattle.keys.proofs.KeyLaws.{internal_length}
use Rattle.keys.proofs.AnswerLaws.{tag_bytes}
use native.Mathlib.Omega.{arith}
use Rattle.keys.proofs.key_types.build_internal_key.Goals as goal

pub returns-in_err-end_of : goal.returns-in_err-end_of
returns-in_err-end_of c = let a = c.args in
    wrote_exit c.from_residual.ensures.0 (omega (arith, internal_length a.word.now a.sequence a.kind, c.in_err-end_of.ensures))

pub returns-in_err-next : goal.returns-in_err-next
returns-in_err-next c = absurd (wrote_never _ _ _ _ _ (omega (arith, c.in_ok-end_of.ensures)) c.put_bytes.ensures c.in_err-next.was)

pub returns : goal.returns
unfolding internal
returns c = let a = c.args in
    wrote_then _ _ _ _ _ _ _ _ _ (omega (arith, bytes_length 8 (a.sequence * 256 + a.kind), c.in_ok-end_of.ensures)) c.put_bytes.ensures c.in_ok-next.was
    (wrote_as (ap (λ (k : ℕ). bytes_of 8 (a.sequence % 2 ^ 56 * 256 + k)) c.from.ensures ∙ tag_bytes a.sequence a.kind) c.write.ensures)

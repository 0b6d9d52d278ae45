-- `block_builder::block_builder::put_entry` meets its contract.
use mathlib.Core.Path.{ap}
use mathlib.Core.List.{◌++◌}
use Prim.Native.Nat.{◌-◌}
use native.Mathlib.Omega.{arith}
use lib.ListN.{length, take, drop, length-append}
use Rattle.codec.proofs.PutLaws.{never_first, never_second, wrote_three}
use Rattle.blocks.specs.Block.{head_bytes}
use Rattle.block_builder.proofs.BuilderCode.{entry_is}
use Rattle.block_builder.proofs.block_builder.put_entry.Goals as goal

pub put_head-requires : goal.put_head-requires
put_head-requires c = let a = c.args in
    let h = head_bytes a.shared (length a.key.now - a.shared) (length a.value.now) in
    omega (arith, c.requires.1, ap length (entry_is a.shared a.key.now a.value.now), length-append h (take (length a.key.now - a.shared) (drop a.shared a.key.now) ++ a.value.now))

pub returns-in_err-tail : goal.returns-in_err-tail
returns-in_err-tail c = absurd (never_first _ (rw entry_is at c.requires.1) c.put_head.ensures c.in_err-tail.was)

pub returns-in_err-rest : goal.returns-in_err-rest
returns-in_err-rest c = absurd (never_second _ (rw entry_is at c.requires.1) c.put_head.ensures c.in_ok-tail.was c.put_bytes.ensures c.in_err-rest.was)

pub returns : goal.returns
returns c = rw entry_is (wrote_three (rw entry_is at c.requires.1) c.put_head.ensures c.in_ok-tail.was c.put_bytes.ensures c.in_ok-rest.was c.put_bytes-2.ensures)

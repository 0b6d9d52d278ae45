-- `block_builder::block_builder::put_head` meets its contract.
use Rattle.codec.proofs.PutLaws.{never_first, never_second, wrote_three}
use Rattle.blocks.specs.Block.{head_bytes}
use Rattle.block_builder.proofs.block_builder.put_head.Goals as goal

pub returns-in_err-second : goal.returns-in_err-second
unfolding head_bytes
returns-in_err-second c = absurd (never_first _ c.requires c.write_varint.ensures c.in_err-second.was)

pub returns-in_err-third : goal.returns-in_err-third
unfolding head_bytes
returns-in_err-third c = absurd (never_second _ c.requires c.write_varint.ensures c.in_ok-second.was c.write_varint-2.ensures c.in_err-third.was)

pub returns : goal.returns
unfolding head_bytes
returns c = wrote_three c.requires c.write_varint.ensures c.in_ok-second.was c.write_varint-2.ensures c.in_ok-third.was c.write_varint-3.ensures

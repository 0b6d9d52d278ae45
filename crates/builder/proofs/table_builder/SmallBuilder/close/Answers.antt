-- `builder::table_builder::SmallBuilder::close` meets its contract.
use native.Mathlib.Omega.{arith}
use Rattle.codec.proofs.VarintLaws.{varint_bytes_length}
use Rattle.builder.proofs.SizeLaws.{end_most, filter_room, close_is}
use Rattle.builder.proofs.table_builder.SmallBuilder.close.Goals as goal

pub overflow_add-end : goal.overflow_add-end
overflow_add-end c = omega (arith, end_most c.args.self.now.state.now c.args.self.now.small c.size_estimate-size.ensures)

pub overflow_add-end-2 : goal.overflow_add-end-2
overflow_add-end-2 c = omega (arith, end_most c.args.self.now.state.now c.args.self.now.small c.size_estimate-size.ensures)

pub overflow_add-result : goal.overflow_add-result
overflow_add-result c = omega (arith, varint_bytes_length c.args.self.now.state.now.written, varint_bytes_length c.size_estimate-size.result)

pub made_until-requires : goal.made_until-requires
made_until-requires c = rw c.filters_of.ensures (omega (arith, filter_room c.args.self.now.state.now c.args.self.now.small))

pub returns : goal.returns
returns c = close_is c.args.self.now.state.now c.args.self.now.small c.size_estimate-size.ensures c.varint_len.ensures c.varint_len-2.ensures (rw c.filters_of.ensures at c.made_until.ensures)

-- `table_write::table_write::meta_size` meets its contract.
use Prim.Native.Nat.{◌+◌, ◌<◌}
use mathlib.Core.Path.{ap}
use native.Mathlib.Omega.{arith}
use lib.ListN.{length}
use Rattle.codec.proofs.VarintLaws.{varint_bytes_length}
use Rattle.bloom.specs.Choice.{choice_of}
use Rattle.table_write.proofs.MetaLaws.{meta_is, name_most}
use Rattle.table_write.proofs.table_write.meta_size.Goals as goal
use Rattle.table_write.proofs.table_write.meta_size.Goals.{After-varint_len-4}

pub overflow_add-value : goal.overflow_add-value
overflow_add-value c = omega (arith, varint_bytes_length c.args.handle.offset, varint_bytes_length c.args.handle.size)

pub overflow_add-result : goal.overflow_add-result
overflow_add-result c = omega (arith, varint_bytes_length (length c.meta_name-name.result.now))

-- all of them together are few
small : (c : After-varint_len-4) → 1 + c.varint_len-3.result + c.varint_len-4.result + length c.meta_name-name.result.now + (c.varint_len.result + c.varint_len-2.result) + 8 < 200
small c =
    let h = c.args.handle in
    omega (arith, varint_bytes_length h.offset, varint_bytes_length h.size, varint_bytes_length (length c.meta_name-name.result.now), varint_bytes_length (c.varint_len.result + c.varint_len-2.result), ap length c.meta_name-name.ensures, name_most (choice_of c.args.filter))

pub overflow_add-result-2 : goal.overflow_add-result-2
overflow_add-result-2 c = omega (arith, small c)

pub overflow_add-result-3 : goal.overflow_add-result-3
overflow_add-result-3 c = omega (arith, small c)

pub overflow_add-result-4 : goal.overflow_add-result-4
overflow_add-result-4 c = omega (arith, small c)

pub overflow_add-result-5 : goal.overflow_add-result-5
overflow_add-result-5 c = omega (arith, small c)

pub returns : goal.returns
returns c = let h = c.args.handle in
    (meta_is (choice_of c.args.filter) h.offset h.size _ _ _ _ _ c.varint_len.ensures c.varint_len-2.ensures (ap length c.meta_name-name.ensures) c.varint_len-3.ensures c.varint_len-4.ensures, small c)

-- `bloom::filter::write_filter` meets its contract.
use Rattle.std.proofs.Common.{◌*◌, ◌-◌, length, arith}
use Rattle.codec.proofs.PutLaws.{wrote_exit}
use Rattle.bloom.proofs.FilterCode.{mid_length, wrote_filter}
use Rattle.filters.proofs.FilterLaws.{filter_length, size_eighths, probes_most}
use Rattle.bloom.proofs.filter.write_filter.Goals as goal

pub returns-in_err-end : goal.returns-in_err-end
returns-in_err-end c = let a = c.args in
    wrote_exit c.from_residual.ensures.0 (omega (arith, c.in_err-end.ensures, filter_length a.bits a.hashes.now, c.filter_size-size.ensures))

pub write_bits-requires : goal.write_bits-requires
write_bits-requires c = let a = c.args in
    omega (arith, mid_length a.out.now a.at (c.in_ok-end.end - 1), c.in_ok-end.ensures, c.filter_size-size.ensures, size_eighths (length a.hashes.now * a.bits))

pub overflow_cast-out : goal.overflow_cast-out
overflow_cast-out c = omega (arith, c.probe_count-k.ensures, probes_most c.args.bits)

pub returns : goal.returns
returns c = let a = c.args in
    let e = c.in_ok-end.ensures in
    wrote_filter a.out.now a.at c.filter_size-size.result (c.in_ok-end.end - 1) c.in_ok-end.end a.bits c.probe_count-k.result a.hashes.now c.write_bits.new.bits
    c.filter_size-size.ensures (omega arith) (omega (arith, e)) (omega (arith, e)) (omega (arith, e)) c.probe_count-k.ensures c.write_bits.ensures

-- `table_block::table_block::bloom_in` meets its contract. The loop's invariant: the entries from `at` on name the same handle as all.
use mathlib.Core.Path.{◌≡◌, refl, sym, ap, ◌∙◌}
use mathlib.Core.List.{List}
use Prim.Native.Nat.{ℕ}
use native.Mathlib.Omega.{arith}
use Rattle.codec.specs.Answers.{given}
use Rattle.codec.specs.Bytes.{same_bytes}
use Rattle.codec.specs.Varint.{one_handle}
use Rattle.blocks.specs.Formed.{bloom_name}
use Rattle.block_reader.proofs.RestLaws.{value_lent}
use Rattle.block_reader.proofs.WalkLaws.{said_of, Same, scan_start, scan_bad, scan_end, scan_more, scan_hit}
use Rattle.table_block.proofs.BloomLaws.{named, bloom_end, bloom_here, bloom_past}
use Rattle.table_block.proofs.table_block.bloom_in.Goals as goal

pub loop-at-init : goal.loop-at-init
loop-at-init c = rw c.new-key.ensures (scan_start _ 0 (Same named) (omega arith) (λ es. refl))

pub returns-in_err-read : goal.returns-in_err-read
returns-in_err-read c = λ es read. absurd (scan_bad c.loop-at.invariant c.loop-at-test.true c.in_err-read.ensures.0 es read)

pub returns-then-named : goal.returns-then-named
returns-then-named c = let t = c.in_ok-read.ensures in
    scan_hit c.loop-at.invariant t (λ es. c.one_handle.result ≡ given (named es)) (λ es rest same.
    c.one_handle.ensures ∙ ap given (ap one_handle (value_lent t) ∙ sym (same ∙ bloom_here t.here rest (said_of (λ (q : List ℕ). same_bytes q bloom_name) (c.as_slice.ensures ∙ t.key) c.is_bloom-named.ensures c.if-named.true))))

pub loop-at-preserved : goal.loop-at-preserved
loop-at-preserved c = let t = c.in_ok-read.ensures in
    scan_more c.loop-at.invariant t (Same named) (λ es rest same. same ∙ bloom_past t.here rest (said_of (λ (q : List ℕ). same_bytes q bloom_name) (c.as_slice.ensures ∙ t.key) c.is_bloom-named.ensures c.if-named.false))

pub returns : goal.returns
returns c = λ es read. bloom_end ∙ ap given (sym (scan_end c.loop-at.invariant c.loop-at-test.false es read))

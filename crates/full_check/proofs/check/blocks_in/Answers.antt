-- `full_check::check::blocks_in` meets its contract. The loop's invariant: the blocks of the entries from `at` on, after what the block before
-- left, come to all.
use Prim.Native.Nat.{◌+◌}
use mathlib.Core.Path.{◌≡◌, sym, ap, ◌∙◌}
use mathlib.Core.List.{List}
use mathlib.Core.Option.{none}
use native.Mathlib.Omega.{arith}
use Rattle.std.specs.Prelude.{Err}
use Rattle.std.specs.Option.{option_copied}
use Rattle.block_reader.proofs.ExitLaws.{handed_on}
use Rattle.blocks.specs.Block.{Entry, pairs_of}
use Rattle.table.specs.Table.{handle_of}
use Rattle.full_check.specs.Answers.{verdict_of}
use Rattle.full_check.specs.declared.check.Edge as Declared
use Rattle.full_check.specs.Steps.{edge_of, blocks_at}
use Rattle.block_reader.specs.Steps.{Taken}
use Rattle.block_reader.proofs.RestLaws.{value_lent}
use Rattle.block_reader.proofs.WalkLaws.{scan_start, scan_bad, scan_end, scan_more, scan_hit}
use Rattle.full_check.proofs.DataLaws.{BlocksLeft, LeftAt, blocks_start, blocks_end, blocks_stop, blocks_more}
use Rattle.full_check.proofs.check.blocks_in.Goals as goal
use Rattle.full_check.proofs.check.blocks_in.Goals.{In_ok-read, After-data_at, then-at-gt0, else-at-gt0}

taken : (c : In_ok-read) → Taken c.args.d.now c.loop-at.at c.loop-at.key c.in_ok-read.read c.read.new.self
taken c = rw c.in_ok-read.ensures.ok_part at c.read.ensures

-- the blocks that are left, after what the code says that the block before left
behind : (c : After-data_at) {es rest : List Entry} → LeftAt c.args.table.now c.args.filter.now c.loop-at.at c.loop-at.edge es rest → BlocksLeft c.args.table.now c.args.filter.now (edge_of (option_copied c.if-at-gt0.before)) es rest
behind c left =
    elim c.if-at-gt0.branch [
      | then-at-gt0 w ↦ rw w.before-is (left.then w.if-at-gt0.true)
      | else-at-gt0 w ↦ rw w.before-is (left.first (omega (arith, w.if-at-gt0.false)))
    ]

pub loop-at-init : goal.loop-at-init
loop-at-init c = rw c.new-key.ensures (scan_start c.args.d.now 0 (LeftAt c.args.table.now c.args.filter.now 0 _) (omega arith) (blocks_start c.args.table.now c.args.filter.now _))

pub returns-in_err-read : goal.returns-in_err-read
returns-in_err-read c = λ es read. absurd (scan_bad c.loop-at.invariant c.loop-at-test.true (rw c.in_err-read.ensures.ok_part at c.read.ensures).0 es read)

pub returns-in_err-data_at : goal.returns-in_err-data_at
returns-in_err-data_at c = λ es read.
    let T = c.args.table.now in
    let F = c.args.filter.now in
    let t = taken (goal.at.returns-in_err-data_at c).In_ok-read in
    let b = (goal.at.returns-in_err-data_at c).After-data_at in
    rw (handed_on _ c.from_residual-in_err-data_at.ensures.1)
    (scan_hit c.loop-at.invariant t (λ (es : List Entry). Err c.in_err-data_at.field-0.0 ≡ verdict_of (blocks_at T F none (pairs_of es)))
    (λ es rest left. blocks_stop T F es _ t.here rest (behind b left) (c.as_slice.ensures ∙ t.key) (c.handle_of-handle.ensures ∙ ap handle_of (value_lent t)) c.in_err-data_at.ensures) es read)

pub loop-at-preserved : goal.loop-at-preserved
loop-at-preserved c =
    let T = c.args.table.now in
    let F = c.args.filter.now in
    let t = taken (goal.at.loop-at-preserved c).In_ok-read in
    let b = (goal.at.loop-at-preserved c).After-data_at in
    let j = c.in_ok-data_at.ensures in
    let next = c.in_ok-read.read.value_at + c.in_ok-read.read.value_len in
    let edge : Declared.Edge = record { index_key = c.copy_from.new.self; last_key = c.copy_from-in-loop-at.new.self } in
    scan_more c.loop-at.invariant t (LeftAt T F next edge) (λ es rest left.
    blocks_more T F es _ t.here rest (behind b left) (c.as_slice.ensures ∙ t.key) (c.handle_of-handle.ensures ∙ ap handle_of (value_lent t)) j.1 next edge (omega (arith, t.up)) (c.copy_from.ensures ∙ t.key) (j.2 ∙ sym c.copy_from-in-loop-at.ensures))

pub returns : goal.returns
returns c = λ es read. blocks_end c.args.table.now c.args.filter.now es c.loop-at.at c.loop-at.edge (scan_end c.loop-at.invariant c.loop-at-test.false es read)

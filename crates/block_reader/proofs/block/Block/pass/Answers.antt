-- `block_reader::block::Block::pass` meets its contract.
use mathlib.Core.Path.{◌≡◌, sym, ◌∙◌}
use native.Mathlib.Omega.{arith}
use lib.ListN.{take, drop}
use Rattle.blocks.specs.Formed.{entry_fits}
use Rattle.blocks.proofs.FormedLaws.{as_pair}
use Rattle.block_reader.specs.Said.{kind_of}
use Rattle.block_reader.specs.Steps.{Taken}
use Rattle.block_reader.proofs.LayoutLaws.{entries_size, numbers_length}
use Rattle.block_reader.proofs.FilledLaws.{pass_none, pass_judged, pass_wrong, pass_past, pass_mark, pass_shares}
use Rattle.block_reader.proofs.block.Block.pass.Goals as goal
use Rattle.block_reader.proofs.block.Block.pass.Goals.{After-in_limits}

-- the entry that was read, and whether it is within the limits
entry : (c : After-in_limits) → Taken (take c.args.self.now.end c.args.self.now.bytes.now) c.args.at c.args.key.now c.in_ok-read.read c.read.new.self
entry c = rw c.entries-d.ensures at c.in_ok-read.ensures

judged : (c : After-in_limits) → c.in_limits.result ≡ entry_fits (kind_of c.args.kind) (as_pair (entry c).here)
judged c = pass_judged (kind_of c.args.kind) (entry c) c.as_slice.ensures c.entries-d.ensures c.in_limits.ensures

pub returns-in_err-read : goal.returns-in_err-read
returns-in_err-read c =
    let b = c.args.self.now in
    rw c.from_residual.ensures (pass_none _ _ _ _ _ (omega (arith, c.requires.0, entries_size b.bytes.now b.laid)) (rw c.entries-d.ensures at c.in_err-read.ensures.0))

pub returns-then-not-in_limits : goal.returns-then-not-in_limits
returns-then-not-in_limits c = let a = (goal.at.returns-then-not-in_limits c).After-in_limits in pass_wrong _ (entry a) _ (sym (judged a) ∙ c.if-not-in_limits.true)

pub returns-then-not-marked : goal.returns-then-not-marked
returns-then-not-marked c =
    let a = (goal.at.returns-then-not-marked c).After-in_limits in
    let b = c.args.self.now in
    pass_past _ (entry a) (sym (judged a) ∙ c.if-not-in_limits.false) _ _ (sym c.marked.ensures ∙ c.if-not-marked.true) (omega (arith, c.requires.1, numbers_length b.count (drop b.end b.bytes.now)))

pub returns-then-read-eq0 : goal.returns-then-read-eq0
returns-then-read-eq0 c =
    let a = (goal.at.returns-then-read-eq0 c).After-in_limits in
    pass_mark _ (entry a) (sym (judged a) ∙ c.if-not-in_limits.false) _ _ (sym c.marked.ensures ∙ c.if-not-marked.false) c.if-read-eq0.true

pub returns-else-read-eq0 : goal.returns-else-read-eq0
returns-else-read-eq0 c =
    let a = (goal.at.returns-else-read-eq0 c).After-in_limits in
    pass_shares _ (entry a) (sym (judged a) ∙ c.if-not-in_limits.false) _ (sym c.marked.ensures ∙ c.if-not-marked.false) c.if-read-eq0.false

-- `full_check::check::data_in` meets its contract.
use mathlib.Core.Path.{sym, ◌∙◌}
use Rattle.block_reader.specs.declared.block.Kind.TheVariants as KindCase
use Rattle.block_reader.specs.Said.{kind_of}
use Rattle.blocks.specs.Block.{pairs_of}
use Rattle.full_check.proofs.BlockLaws.{Formed, formed}
use Rattle.full_check.proofs.DataLaws.{data_malformed, data_unordered, data_denied, data_passed}
use Rattle.full_check.proofs.check.data_in.Goals as goal
use Rattle.full_check.proofs.check.data_in.Goals.{After-in_order}

found : (c : After-in_order) → Formed (kind_of KindCase.Data) c.args.s.now
found c = formed (kind_of KindCase.Data) c.args.s.now (sym c.is_formed.ensures ∙ c.if-not-is_formed.false)

pub returns-then-not-is_formed : goal.returns-then-not-is_formed
returns-then-not-is_formed c = data_malformed _ _ _ _ _ (sym c.is_formed.ensures ∙ c.if-not-is_formed.true)

pub returns-then-not-in_order : goal.returns-then-not-in_order
returns-then-not-in_order c =
    let f = found (goal.at.returns-then-not-in_order c).After-in_order in
    data_unordered _ _ _ _ _ f.is ((rw c.if-not-in_order.true at c.in_order.ensures) f.entries (c.entries-d.ensures f.entries f.reads))

pub returns-then-not-all_held : goal.returns-then-not-all_held
returns-then-not-all_held c =
    let f = found (goal.at.returns-then-not-all_held c).After-in_order in
    let reads = c.entries-d.ensures f.entries f.reads in
    let u = (rw c.if-not-in_order.false at c.in_order.ensures) f.entries reads in
    data_denied _ _ _ _ _ f.is u.0 (sym (c.all_held.ensures f.entries reads) ∙ c.if-not-all_held.true)

pub returns : goal.returns
returns c =
    let f = found (goal.at.returns c).After-in_order in
    let reads = c.entries-d.ensures f.entries f.reads in
    let u = (rw c.if-not-in_order.false at c.in_order.ensures) f.entries reads in
    (pairs_of f.entries, data_passed _ _ _ _ _ f.is u.0 (sym (c.all_held.ensures f.entries reads) ∙ c.if-not-all_held.false), u.1)

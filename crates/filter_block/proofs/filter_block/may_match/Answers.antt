-- `filter_block::filter_block::may_match` meets its contract.
use mathlib.Core.Path.{◌∙◌}
use mathlib.Core.Logic.{inl, inr}
use native.Mathlib.Omega.{arith}
use Rattle.filter_block.proofs.FilterBlockCode.{may_unread, may_count, may_wrong, may_asked}
use Rattle.filter_block.proofs.filter_block.may_match.Goals as goal
use Rattle.filter_block.proofs.filter_block.may_match.Goals.{then-to-from-via-then-to-from, then-to-from-via-else-to-from+then-starts-to}

pub returns-in_default : goal.returns-in_default
returns-in_default c = may_unread _ _ _ c.in_default.ensures

pub returns-then-starts-i : goal.returns-then-starts-i
returns-then-starts-i c = may_count _ _ _ c.in-Some.starts c.in-Some.ensures (omega arith)

pub returns-then-to-from : goal.returns-then-to-from
returns-then-to-from c = may_wrong _ _ _ c.in-Some.starts c.in-Some.ensures _ _ c.number-from.ensures c.number-to.ensures
    (elim c.then-to-from.branch [
      | then-to-from-via-then-to-from w ↦ inl w.if-to-from.true
      | then-to-from-via-else-to-from+then-starts-to w ↦ inr w.if-starts-to.true
    ])

pub returns : goal.returns
returns c = c.key_may_match.ensures
    ∙ may_asked _ _ _ c.in-Some.starts c.in-Some.ensures _ _ c.number-from.ensures c.number-to.ensures c.if-starts-i.false c.if-to-from.false c.if-starts-to.false

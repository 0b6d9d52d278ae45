-- `filter_block::filter_block::is_formed` meets its contract.
use mathlib.Core.Path.{◌∙◌}
use borrow.Author.Tests.{ne_eqb}
use Rattle.filter_block.proofs.FilterBlockCode.{formed_unread, formed_whole, formed_rising}
use Rattle.filter_block.proofs.filter_block.is_formed.Goals as goal

pub returns-in_default : goal.returns-in_default
returns-in_default c = formed_unread _ c.in_default.ensures

pub returns-then-block-starts-eq0 : goal.returns-then-block-starts-eq0
returns-then-block-starts-eq0 c = c.starts_rise.ensures ∙ formed_rising _ c.in-Some.starts c.in-Some.ensures c.if-block-starts-eq0.true

pub returns-else-block-starts-eq0 : goal.returns-else-block-starts-eq0
returns-else-block-starts-eq0 c = ne_eqb _ 0 c.if-block-starts-eq0.false ∙ formed_whole _ c.in-Some.starts c.in-Some.ensures c.if-block-starts-eq0.false

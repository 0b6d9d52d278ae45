-- `block_reader::block::in_limits` meets its contract.
use mathlib.Core.Path.{sym, ap, ◌∙◌}
use mathlib.Core.Bool.{not}
use Rattle.block_reader.proofs.FilledLaws.{and_with, or_with, limits_data, limits_index, limits_meta}
use Rattle.block_reader.proofs.block.in_limits.Goals as goal

pub returns-then-within : goal.returns-then-within
returns-then-within c = sym (limits_data _ c.in-Data.is ∙ and_with _ (sym c.within.ensures ∙ c.if-within.true))

pub returns-else-within : goal.returns-else-within
returns-else-within c = c.if-within.false ∙ sym (limits_data _ c.in-Data.is ∙ and_with _ (sym c.within.ensures ∙ c.if-within.false))

pub returns-then-within-2 : goal.returns-then-within-2
returns-then-within-2 c = c.is_handle.ensures ∙ sym (limits_index _ c.in-Index.is ∙ and_with _ (sym c.within-in-Index.ensures ∙ c.if-within-2.true))

pub returns-else-within-2 : goal.returns-else-within-2
returns-else-within-2 c = c.if-within-2.false ∙ sym (limits_index _ c.in-Index.is ∙ and_with _ (sym c.within-in-Index.ensures ∙ c.if-within-2.false))

pub returns-then-not-is_bloom : goal.returns-then-not-is_bloom
returns-then-not-is_bloom c = ap not c.if-not-is_bloom.true
    ∙ sym (limits_meta _ c.in-Metaindex.is ∙ and_with _ (sym c.within-in-Metaindex.ensures ∙ c.if-within-3.true) ∙ or_with _ (ap not (sym c.is_bloom.ensures ∙ c.if-not-is_bloom.true)))

pub returns-else-not-is_bloom : goal.returns-else-not-is_bloom
returns-else-not-is_bloom c = c.is_handle-else-not-is_bloom.ensures
    ∙ sym (limits_meta _ c.in-Metaindex.is ∙ and_with _ (sym c.within-in-Metaindex.ensures ∙ c.if-within-3.true) ∙ or_with _ (ap not (sym c.is_bloom.ensures ∙ c.if-not-is_bloom.false)))

pub returns-else-within-3 : goal.returns-else-within-3
returns-else-within-3 c = c.if-within-3.false ∙ sym (limits_meta _ c.in-Metaindex.is ∙ and_with _ (sym c.within-in-Metaindex.ensures ∙ c.if-within-3.false))

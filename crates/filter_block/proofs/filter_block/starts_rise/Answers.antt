-- `filter_block::filter_block::starts_rise` meets its contract. The invariant: the starts to go decide.
use mathlib.Core.Path.{◌∙◌}
use native.Mathlib.Nat.{add-zero, sub-zero}
use native.Mathlib.Omega.{arith}
use Rattle.filter_block.proofs.FilterBlockCode.{rising_more, rising_falls, rising_none}
use Rattle.filter_block.proofs.filter_block.starts_rise.Goals as goal

pub loop-i-init : goal.loop-i-init
loop-i-init c = rw (add-zero, sub-zero)

pub returns-then-x-low : goal.returns-then-x-low
returns-then-x-low c = rising_falls _ _ _ _ _ _ _ c.number-x.ensures (omega arith) (omega arith) ∙ c.loop-i.invariant

pub loop-i-preserved : goal.loop-i-preserved
loop-i-preserved c = rising_more _ _ _ _ _ _ _ c.number-x.ensures (omega arith) (omega arith) ∙ c.loop-i.invariant

pub returns : goal.returns
returns c = rising_none _ _ _ _ _ _ (omega arith) ∙ c.loop-i.invariant

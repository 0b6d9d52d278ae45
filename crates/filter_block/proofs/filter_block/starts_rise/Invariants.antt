-- `filter_block::filter_block::starts_rise` meets its contract. The invariant: the starts to go decide.
use mathlib.Core.Path.{◌≡◌}
use Prim.Native.Nat.{◌+◌, ◌*◌, ◌-◌}
use lib.ListN.{drop}
use Rattle.codec.specs.Bytes.{numbers}
use Rattle.filters.specs.FilterBlock.{rising}
use Rattle.filter_block.proofs.filter_block.starts_rise.Given as goal

abbrev pub invariant-loop-i : goal.invariant-loop-i
invariant-loop-i l = rising l.low (numbers (l.count - l.i) (drop (l.array + 4 * l.i) l.block)) l.array ≡ rising 0 (numbers l.count (drop l.array l.block)) l.array

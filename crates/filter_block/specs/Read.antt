-- What a filter block says of its starts.
use Rattle.std.specs.Prelude.{◌≡◌, ◌+◌, ◌*◌, ◌-◌, ◌≤◌, List, ℕ, length, Option, None, Some}
use Rattle.filter_block.specs.declared.filter_block.Starts.{Starts}
use Rattle.filters.specs.FilterBlock.{base_of, array_of, count_of}

-- the bytes that say it are there, and say what can be
pub record HasStarts (s : List ℕ) : Type 0 where
  pub long : 5 ≤ length s
  pub base : base_of s ≤ 31
  pub within : array_of s ≤ length s - 5

-- what is read of them, all of them there, or that the bytes say nothing
abbrev pub StartsOf : List ℕ → Option Starts → Type 0
StartsOf s None = HasStarts s → ⊥
StartsOf s (Some t) = HasStarts s × (t.array ≡ array_of s) × (t.count ≡ count_of s) × (t.base ≡ base_of s) × (t.array + 4 * t.count + 5 ≤ length s)

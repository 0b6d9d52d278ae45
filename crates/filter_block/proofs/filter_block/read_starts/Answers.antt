-- `filter_block::filter_block::read_starts` meets its contract.
use Prim.Native.Nat.{ℕ, ◌+◌, ◌-◌, ◌/◌, ◌≤◌}
use mathlib.Core.Path.{◌≡◌, ap, ◌∙◌}
use mathlib.Core.List.{List}
use native.Mathlib.Omega.{arith}
use lib.ListN.{length, get_or}
use Rattle.codec.specs.Bytes.{part, number_of}
use Rattle.filters.specs.FilterBlock.{base_of, array_of, count_of}
use Rattle.filter_block.proofs.filter_block.read_starts.Goals as goal
use Rattle.filter_block.proofs.filter_block.read_starts.Goals.{then-end-array-via-then-end-array, then-end-array-via-else-end-array+then-base-gt31}

array_is : (s : List ℕ) (end x : ℕ) → end ≡ length s - 5 → x ≡ number_of (part s end 4) → x ≡ array_of s
unfolding array_of
array_is s end x e r = r ∙ ap (λ (n : ℕ). number_of (part s n 4)) e

base_is : (s : List ℕ) (end : ℕ) → end ≡ length s - 5 → 5 ≤ length s → get_or s (end + 4) 0 ≡ base_of s
unfolding base_of
base_is s end e l = let p : end + 4 ≡ length s - 1 = omega arith in ap (λ (n : ℕ). get_or s n 0) p

count_is : (s : List ℕ) (end x : ℕ) → end ≡ length s - 5 → x ≡ array_of s → (end - x) / 4 ≡ count_of s
unfolding count_of
count_is s end x e r = omega arith

pub returns-then-end-array : goal.returns-then-end-array
returns-then-end-array c = let s = c.args.block.now in
    let e = c.in_ok-end.ensures in
    let a = array_is s c.in_ok-end.end c.number-array.result e.1 c.number-array.ensures in
    let b = base_is s c.in_ok-end.end e.1 e.0 in
    λ h. elim c.then-end-array.branch [
      | then-end-array-via-then-end-array w ↦ omega (arith, e.1, a, h.within, w.if-end-array.true)
      | then-end-array-via-else-end-array+then-base-gt31 w ↦ omega (arith, b, h.base, w.if-base-gt31.true)
    ]

pub returns : goal.returns
returns c = let s = c.args.block.now in
    let e = c.in_ok-end.ensures in
    let a = array_is s c.in_ok-end.end c.number-array.result e.1 c.number-array.ensures in
    let b = base_is s c.in_ok-end.end e.1 e.0 in (
      record { long = e.0; base = omega (arith, b, c.if-base-gt31.false); within = omega (arith, e.1, a, c.if-end-array.false) },
      a,
      count_is s c.in_ok-end.end c.number-array.result e.1 a,
      c.from.ensures ∙ b,
      omega (arith, e, c.if-end-array.false),
    )

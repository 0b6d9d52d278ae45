-- The metaindex's name and size.
use Prim.Native.Nat.{ℕ, ◌+◌, ◌-◌, ◌≤◌}
use mathlib.Core.Path.{◌≡◌, refl, ap, ap₂, ◌∙◌}
use native.Mathlib.Omega.{arith}
use lib.ListN.{length}
use Rattle.codec.specs.Varint.{varint_bytes, varint_bytes_f}
use Rattle.blocks.specs.Formed.{bloom_name}
use Rattle.blocks.specs.Count.{varint_size, entry_size}
use Rattle.filters.specs.FilterBlock.{Filtering, unfiltered, bits_per_key}
use Rattle.table.specs.Build.{meta_name}
use Rattle.table.specs.Counts.{handle_size, meta_size}

pub meta_is : (c : Filtering) (offset size a b n x y : ℕ) → a ≡ varint_size offset → b ≡ varint_size size → n ≡ length (meta_name c) → x ≡ varint_size n → y ≡ varint_size (a + b)
    → 1 + x + y + n + (a + b) + 8 ≡ meta_size c offset size
unfolding meta_size entry_size handle_size
meta_is c offset size a b n x y ea eb en ex ey =
    let u : varint_size 0 ≡ 1 = unfold varint_bytes varint_bytes_f in refl in
    let v : x ≡ varint_size (length (meta_name c)) = ex ∙ ap (λ (m : ℕ). length (varint_bytes m)) en in
    let w : y ≡ varint_size (varint_size offset + varint_size size) = ey ∙ ap (λ (m : ℕ). length (varint_bytes m)) (ap₂ ◌+◌ ea eb) in
    let z : length (meta_name c) - 0 ≡ length (meta_name c) = omega arith in
    let t : varint_size (length (meta_name c) - 0) ≡ varint_size (length (meta_name c)) = ap (λ (m : ℕ). length (varint_bytes m)) z in
    omega (arith, ea, eb, en, u, v, w, t)

pub name_most : (c : Filtering) → length (meta_name c) ≤ 35
unfolding meta_name bloom_name
name_most unfiltered = omega arith
name_most (bits_per_key b) = omega arith

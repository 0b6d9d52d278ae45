-- The end of a table, block behind block.
use Prim.Native.Nat.{ℕ, ◌+◌, ◌*◌, ◌-◌, ◌^◌, ◌≤◌, min}
use mathlib.Core.Path.{◌≡◌, sym, ap, subst, ◌∙◌}
use mathlib.Core.List.{List, ◌++◌}
use native.Mathlib.Omega.{arith}
use lib.ListN.{length, length-append}
use Rattle.codec.specs.Put.{put}
use Rattle.codec.specs.Varint.{Handle, handle_bytes}
use Rattle.block_builder.specs.declared.block_builder.BlockBuilder.{BlockBuilder}
use Rattle.blocks.specs.Block.{Pair, block_bytes}
use Rattle.blocks.specs.Count.{entry_size, count_size}
use Rattle.block_builder.specs.Builder.{count_in}
use Rattle.blocks.proofs.BuildLaws.{one_long}
use Rattle.block_builder.proofs.BuilderLaws.{stands_size}
use Rattle.blocks.proofs.CountLaws.{entry_long}
use Rattle.filters.specs.FilterBlock.{Filtering, filter_block_of}
use Rattle.filters.proofs.FilterBlockLaws.{block_of_long}
use Rattle.table.specs.Build.{framed, meta_name, footer_bytes}
use Rattle.table.specs.Counts.{meta_size}
use Rattle.table.specs.Runs.{overlay}
use Rattle.table.proofs.CountsLaws.{handle_length}
use Rattle.table.proofs.FrameLaws.{framed_length}
use Rattle.table.proofs.OverlayLaws.{overlay_put, overlay_long}
use Rattle.table_write.specs.Writes.{Framed, IndexPut, EndFits, meta_block, EndPut}

filter_long : (filters offsets : List ℕ) → length filters + 4 * length offsets + 5 ≡ length (filter_block_of filters offsets)
filter_long filters offsets = omega (arith, block_of_long filters offsets)

meta_long : (i : ℕ) (c : Filtering) (h : Handle) → meta_size c h.offset h.size ≡ length (meta_block i c h)
unfolding meta_size meta_block
meta_long i c h =
    let p : Pair = record { key = meta_name c; value = handle_bytes h } in
    sym (one_long i p ∙ ap (λ (n : ℕ). n + 8) (entry_long 0 p ∙ ap (λ (n : ℕ). entry_size 0 (length p.key) n) (handle_length h.offset h.size)))

-- contents and their trailer behind what stands
behind : {out out' : List ℕ} {at : ℕ} {bs : List ℕ} (w r : List ℕ) → Framed out at bs out' → out ≡ overlay w r → at ≡ length w → length (w ++ framed bs) ≤ length r → out' ≡ overlay (w ++ framed bs) r
behind {out} {out'} {at} {bs} w r g p e h =
    let l = length-append w (framed bs) in
    let m = framed_length bs in
    let k = overlay_long w out r p (omega arith) in
    g.framed (omega arith) ∙ overlay_put w (framed bs) out r at e p h

module _ (n : ℕ) (c : Filtering) (at : ℕ) (indexed : BlockBuilder) (filters offsets index rs out : List ℕ) {o₁ o₂ o₃ o₄ : List ℕ} (block meta size : ℕ)
    (fits : EndFits at (length filters) (length offsets) indexed (length filters) (length offsets) (length index))
    (eb : block ≡ length filters + 4 * length offsets + 5)
    (g₁ : block ≡ length (filter_block_of filters offsets) → Framed out at (filter_block_of filters offsets) o₁)
    (em : meta ≡ meta_size c at block)
    (g₂ : 1 ≤ n → n ≤ 1024 → Framed o₁ (at + block + 5) (meta_block n c (record { offset = at; size = block })) o₂)
    (g₃ : IndexPut indexed index rs (at + block + 5 + meta + 5) o₂ o₃)
    (es : size ≡ min (2 ^ 64 - 1) (count_size (count_in indexed)))
    (g₄ : o₄ ≡ put o₃ (at + block + 5 + meta + 5 + size + 5) (footer_bytes (record { offset = at + block + 5; size = meta }) (record { offset = at + block + 5 + meta + 5; size = size }))) where
  abbrev the_filter : ℕ → Handle
  the_filter k = record { offset = at; size = k }

  pub end_put : EndPut n c at indexed filters offsets index rs out o₄
  end_put =
      record {
        wrote = λ l m i ps st w r p lw h.
            let fb = filter_block_of filters offsets in
            let b : block ≡ length fb = eb ∙ filter_long filters offsets in
            let mb = meta_block n c (the_filter (length fb)) in
            let mm : meta ≡ length mb = em ∙ ap (meta_size c at) b ∙ meta_long n c (the_filter (length fb)) in
            let ib = block_bytes i ps in
            let z : count_size (count_in indexed) ≡ length ib = sym (stands_size st) in
            let ss : size ≡ length ib = omega (arith, es, fits.index_size, z) in
            let t = w ++ framed fb in
            let u = t ++ framed mb in
            let foot = footer_bytes (record { offset = length t; size = length mb }) (record { offset = length u; size = length ib }) in
            let lt = length-append w (framed fb) in
            let lu = length-append t (framed mb) in
            let lx = length-append u (framed ib) in
            let ly = length-append (u ++ framed ib) foot in
            let ff = framed_length fb in
            let fm = framed_length mb in
            let fi = framed_length ib in
            let x₁ : o₁ ≡ overlay t r = behind w r (g₁ b) p (sym lw) (omega arith) in
            let mb' : Framed o₁ (at + block + 5) mb o₂ = subst (λ (k : ℕ). Framed o₁ (at + block + 5) (meta_block n c (the_filter k)) o₂) b (g₂ l m) in
            let at₁ : at + block + 5 ≡ length t = omega arith in
            let x₂ : o₂ ≡ overlay u r = behind t r mb' x₁ at₁ (omega arith) in
            let at₂ : at + block + 5 + meta + 5 ≡ length u = omega arith in
            let x₃ : o₃ ≡ overlay (u ++ framed ib) r = behind u r (g₃.wrote i ps st) x₂ at₂ (omega arith) in
            let at₃ : at + block + 5 + meta + 5 + size + 5 ≡ length (u ++ framed ib) = omega arith in
            let fo : footer_bytes (record { offset = at + block + 5; size = meta }) (record { offset = at + block + 5 + meta + 5; size = size }) ≡ foot = rw (at₂, at₁, mm, ss) in
            g₄ ∙ ap (put o₃ (at + block + 5 + meta + 5 + size + 5)) fo ∙ overlay_put (u ++ framed ib) foot o₃ r _ at₃ x₃ h;
      }

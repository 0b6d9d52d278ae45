-- What the end of a table is written by: blocks and their trailers, and the footer.
use Prim.Native.Nat.{ℕ, zero, suc, ◌+◌, ◌-◌, ◌^◌, ◌≤◌}
use mathlib.Core.Path.{◌≡◌, sym, ap, ap₂, ◌∙◌}
use mathlib.Core.List.{List, [], ◌∷◌, ◌++◌, append_assoc, append-nil}
use mathlib.Core.Bool.{true}
use native.Mathlib.Nat.{zero-add, add-zero, suc-add}
use native.Mathlib.Omega.{arith}
use lib.ListN.{length, take, drop, replicate, length-append, length-replicate, drop_of_length-le}
use lib.Seq.{take_at, drop_at}
use Rattle.std.specs.Prelude.{Result, Ok}
use Rattle.std.specs.Result.{result_unwrap_or}
use Rattle.codec.specs.Bytes.{part}
use Rattle.checksum.specs.Checksum.{trailer}
use Rattle.codec.specs.Put.{put, Wrote}
use Rattle.codec.specs.Varint.{Handle, handle_bytes}
use Rattle.codec.specs.declared.put.NoRoom.{NoRoom}
use Rattle.codec.proofs.PutLaws.{put_put, put_room, answer_room, front_put}
use Rattle.checksum.proofs.TrailerLaws.{trailer_length}
use Rattle.codec.proofs.VarintLaws.{handle_long}
use Rattle.block_builder.specs.declared.block_builder.BlockBuilder.{BlockBuilder}
use Rattle.blocks.specs.Block.{Pair, packed, restarts_of, tail_bytes, block_bytes}
use Rattle.blocks.specs.Count.{BlockCount, count_of, count_entry, count_size}
use Rattle.blocks.proofs.CountLaws.{entry_restarts, count_size_lem}
use Rattle.blocks.proofs.BuildLaws.{block_length}
use Rattle.block_builder.specs.Builder as Blocks
use Rattle.block_builder.specs.Builder.{count_in, new_builder, builder_after, builder_with, next_bytes, fit_answer, AddedIs}
use Rattle.block_builder.proofs.BuilderLaws.{counting_none, after_is, stands_none, stands_more, stands_size, added_is}
use Rattle.block_builder.proofs.BuilderCode.{next_bytes_lem}
use Rattle.filters.specs.FilterBlock.{Filtering}
use Rattle.table.specs.Build.{framed, meta_name, footer_bytes}
use Rattle.table.specs.Table.{magic}
use Rattle.table_write.specs.Writes.{size_of, tailed_out, sealed_out, Framed, meta_block}
use Rattle.table_write.proofs.EntryLaws.{entry_bytes_lem, countable_small, counted_long, fits_addable, part_put}
use Rattle.table_write.proofs.MetaLaws.{name_most}
use Rattle.table_write.proofs.WriteLaws.{size_is}

-- ---- contents and their trailer

framed_put : (out : List ℕ) (at : ℕ) (bs : List ℕ) (size : ℕ) → size ≡ length bs → at + length bs + 5 ≤ length out
    → put (put out at bs) (at + size) (trailer (part (put out at bs) at size)) ≡ put out at (framed bs)
unfolding framed
framed_put out at bs size e h =
    ap (λ (n : ℕ). put (put out at bs) (at + n) (trailer (part (put out at bs) at n))) e
    ∙ ap (λ (x : List ℕ). put (put out at bs) (at + length bs) (trailer x)) (part_put out at bs (omega arith))
    ∙ put_put out at bs (trailer bs) (omega (arith, trailer_length bs))

pub framed_is : {out : List ℕ} {at : ℕ} {bs e f : List ℕ} {size : ℕ} → size ≡ length bs → e ≡ put out at bs → f ≡ put e (at + size) (trailer (part e at size)) → Framed out at bs f
framed_is {out} {at} {bs} {e} {f} {size} p q w =
    record { framed = λ h. w ∙ ap (λ (x : List ℕ). put x (at + size) (trailer (part x at size))) q ∙ framed_put out at bs size p h }

-- a block whose entries were put at a place
block_framed : {i : ℕ} {ps : List Pair} {b : BlockBuilder} {at : ℕ} {e rs : List ℕ} (out : List ℕ) → Blocks.Stands i ps b at e rs → count_size (count_in b) ≤ 2 ^ 40 → e ≡ put out at (packed i i [] ps)
    → at + length (block_bytes i ps) + 5 ≤ length out → sealed_out e at b rs ≡ put out at (framed (block_bytes i ps))
unfolding sealed_out block_bytes
block_framed {i} {ps} {b} {at} {e} {rs} out s m p h =
    let t = tail_put (packed i i [] ps) (restarts_of i i [] 0 ps) p (counted_long s.counting).0 s.marks h in
    ap (λ (x : List ℕ). put x (at + size_of b) (trailer (part x at (size_of b)))) t
    ∙ framed_put out at (block_bytes i ps) (size_of b) (size_is b m ∙ sym (stands_size s)) h
  where
    tail_put : (x ms : List ℕ) → e ≡ put out at x → b.bytes ≡ length x → take b.restarts rs ≡ ms → at + length (x ++ tail_bytes ms) + 5 ≤ length out
        → tailed_out e at b rs ≡ put out at (x ++ tail_bytes ms)
    tail_put x ms q m z h =
        unfold tailed_out in
        ap₂ (λ (y : List ℕ) (k : ℕ). put y (at + k) (tail_bytes (take b.restarts rs))) q m
        ∙ ap (λ (y : List ℕ). put (put out at x) (at + length x) (tail_bytes y)) z
        ∙ put_put out at x (tail_bytes ms) (omega (arith, length-append x (tail_bytes ms)))

-- ---- a block of one entry

module _ (i at : ℕ) (out key value : List ℕ) {out₁ rs₁ out₂ : List ℕ} {x : Result (Unit {0}) NoRoom} {b : BlockBuilder} (l : 1 ≤ i) (m : i ≤ 1024) (k : length key ≤ 1032) (v : length value ≤ 32768)
    (g : AddedIs (new_builder i) at out out₁ (0 ∷ []) rs₁ key value x b)
    (t : out₂ ≡ sealed_out out₁ at b rs₁) where
  abbrev p : Pair
  p = record { key = key; value = value }

  abbrev b₀ : BlockBuilder
  b₀ = new_builder i

  abbrev c : BlockCount
  c = count_entry i (count_in b₀) key (length value)

  one_count : c ≡ count_of i (p ∷ [])
  unfolding new_builder
  one_count = after_is (counting_none i) p

  one_size : length (block_bytes i (p ∷ [])) ≡ count_size c
  one_size = count_size_lem i (p ∷ []) ∙ ap count_size (sym one_count)

  one_most : count_size c ≤ 2 ^ 40
  unfolding count_size new_builder count_in
  one_most = omega (arith, entry_bytes_lem i (count_in b₀) key (length value), (entry_restarts i (count_in b₀) key (length value)).1)

  one_fits : at + length (block_bytes i (p ∷ [])) + 5 ≤ length out → x ≡ Ok tt
  unfolding count_size new_builder builder_after builder_with count_in
  one_fits h =
      g.fits
      ∙ ap fit_answer (fits_addable b₀ at out (0 ∷ []) key value (countable_small b₀ key (length value) k (omega arith) (omega arith) (omega arith) (omega arith) l m)
      (omega (arith, one_size)) (omega (arith, (entry_restarts i (count_in b₀) key (length value)).1)) (omega arith))

  one_bytes : x ≡ Ok tt → (b.bytes ≡ length (next_bytes b₀ key value)) × (b.bytes ≡ c.bytes)
  unfolding builder_after builder_with new_builder
  one_bytes f =
      let e : b.bytes ≡ c.bytes = ap (λ (y : BlockBuilder). y.bytes) (added_is g true f).0 in
      let n = next_bytes_lem b₀ key value in
      (omega (arith, e, n), e)

  pub one_framed : Framed out at (block_bytes i (p ∷ [])) out₂
  unfolding count_size new_builder
  one_framed =
      record {
        framed = λ h.
            let fits = one_fits h in
            let more = stands_more (stands_none i at out (0 ∷ [])) p g fits in
            let nb = next_bytes b₀ key value in
            let z : out₁ ≡ put out at nb = (added_is g true fits).1 ∙ ap (λ (n : ℕ). put out n nb) (add-zero at) in
            let n = one_bytes fits in
            let room : at + length nb ≤ length out = omega (arith, one_size, n.0, n.1) in
            let q : packed i i [] (p ∷ []) ≡ nb = sym more.entries ∙ ap₂ (λ (o : List ℕ) (j : ℕ). part o at j) z n.0 ∙ part_put out at nb room in
            t ∙ block_framed out more (omega (arith, stands_size more, one_size, one_most)) (z ∙ ap (put out at) (sym q)) h;
      }

-- ---- the index

pub index_framed : {i : ℕ} {ps : List Pair} {b : BlockBuilder} {index rs e : List ℕ} (at : ℕ) (out : List ℕ) → Blocks.Stands i ps b 0 index rs → count_size (count_in b) ≤ 2 ^ 40 → e ≡ put out at (take b.bytes index)
    → {f : List ℕ} → f ≡ sealed_out e at b rs → Framed out at (block_bytes i ps) f
unfolding part
index_framed {i} {ps} {b} {index} {rs} {e} at out s m p q =
    let n = (counted_long s.counting).0 in
    let z : e ≡ put out at (packed i i [] ps) = p ∙ ap (put out at) s.entries in
    record {
      framed = λ h.
          let l = block_length i ps in
          let there : part e at b.bytes ≡ packed i i [] ps = ap₂ (λ (o : List ℕ) (j : ℕ). part o at j) z n ∙ part_put out at (packed i i [] ps) (omega arith) in
          q ∙ block_framed out (record { counting = s.counting; entries = there; marks = s.marks }) m z h;
    }

-- ---- the footer

replicate_add : (m n x : ℕ) → replicate (m + n) x ≡ replicate m x ++ replicate n x
replicate_add zero n x = ap (λ (k : ℕ). replicate k x) (zero-add n)
replicate_add (suc m) n x = ap (λ (k : ℕ). replicate k x) (suc-add m n) ∙ ap (λ (l : List ℕ). x ∷ l) (replicate_add m n x)

module _ (a b : List ℕ) (la : length a ≤ 20) (lb : length b ≤ 20) where
  abbrev zeros : List ℕ
  zeros = replicate 48 0

  abbrev hs : List ℕ
  hs = a ++ b

  handles_put : put (put zeros 0 a) (0 + length a) b ≡ (hs ++ replicate (40 - length hs) 0) ++ replicate 8 0
  handles_put =
      let l = length-append a b in
      let z = length-replicate {A = ℕ} 48 0 in
      let u : 48 ≡ length hs + (48 - length hs) = omega arith in
      let v : 48 - length hs ≡ 40 - length hs + 8 = omega arith in
      let s : zeros ≡ replicate (length hs) 0 ++ replicate (48 - length hs) 0 = ap (λ (n : ℕ). replicate {A = ℕ} n 0) u ∙ replicate_add (length hs) (48 - length hs) 0 in
      let t : replicate {A = ℕ} (48 - length hs) 0 ≡ replicate (40 - length hs) 0 ++ replicate 8 0 = ap (λ (n : ℕ). replicate {A = ℕ} n 0) v ∙ replicate_add (40 - length hs) 8 0 in
      put_put zeros 0 a b (omega arith)
      ∙ put_room zeros 0 hs (omega arith)
      ∙ ap (λ (y : List ℕ). hs ++ y) (ap₂ (λ (n : ℕ) (y : List ℕ). drop n y) (zero-add (length hs)) s ∙ drop_at (replicate (length hs) 0) (replicate (48 - length hs) 0) (length hs) (length-replicate {A = ℕ} (length hs) 0) ∙ t)
      ∙ sym (append_assoc hs (replicate (40 - length hs) 0) (replicate 8 0))

  pub foot_is : {f₁ f₂ f₃ : List ℕ} {n : ℕ} → f₁ ≡ put zeros 0 a → n ≡ 0 + length a → f₂ ≡ put f₁ n b → f₃ ≡ put f₂ 40 magic → f₃ ≡ hs ++ (replicate (40 - length hs) 0 ++ magic)
  unfolding magic
  foot_is {f₁} {f₂} {f₃} {n} p m q w =
      let x = hs ++ replicate (40 - length hs) 0 in
      let e : f₂ ≡ x ++ replicate 8 0 = q ∙ ap₂ (λ (y : List ℕ) (j : ℕ). put y j b) p m ∙ handles_put in
      let l = length-append a b in
      let lx : length x ≡ 40 = omega (arith, length-append hs (replicate (40 - length hs) 0), length-replicate {A = ℕ} (40 - length hs) 0) in
      let le = length-append x (replicate 8 0) in
      let most : length (x ++ replicate 8 0) ≤ 48 = omega arith in
      w
      ∙ ap (λ (y : List ℕ). put y 40 magic) e
      ∙ put_room (x ++ replicate 8 0) 40 magic (omega arith)
      ∙ ap₂ (λ (y z : List ℕ). y ++ magic ++ z) (take_at x (replicate 8 0) 40 lx) (drop_of_length-le (x ++ replicate 8 0) most)
      ∙ append-nil (x ++ magic)
      ∙ append_assoc hs (replicate (40 - length hs) 0) magic

pub footer_is : (m i : Handle) {f₁ f₂ f₃ : List ℕ} {n : ℕ} → f₁ ≡ put (replicate 48 0) 0 (handle_bytes m) → n ≡ 0 + length (handle_bytes m) → f₂ ≡ put f₁ n (handle_bytes i) → f₃ ≡ put f₂ 40 magic
    → f₃ ≡ footer_bytes m i
unfolding footer_bytes
footer_is m i p q r w = foot_is (handle_bytes m) (handle_bytes i) (handle_long m) (handle_long i) p q r w

-- ---- a handle at the front of an array that has room for it

module _ (h : Handle) {d e : List ℕ} {r : Result ℕ NoRoom} {n : ℕ} (w : Wrote d 0 (handle_bytes h) r e) (u : n ≡ result_unwrap_or r 0) where
  -- it is never refused
  handle_end : 20 ≤ length d → n ≡ 0 + length (handle_bytes h)
  handle_end l =
      let o : r ≡ Ok (0 + length (handle_bytes h)) = w.said ∙ answer_room d 0 (handle_bytes h) (omega (arith, handle_long h)) in
      u ∙ ap (λ (x : Result ℕ NoRoom). result_unwrap_or x 0) o

  pub handle_put : length d ≡ 20 → (n ≤ 20) × ((length e ≡ 20) × (take n e ≡ handle_bytes h))
  handle_put l =
      let o : r ≡ Ok n = w.said ∙ answer_room d 0 (handle_bytes h) (omega (arith, handle_long h)) ∙ ap Ok (sym (handle_end (omega arith))) in
      front_put 20 (handle_bytes h) l (handle_long h) w o

pub foot_next : (h : Handle) {e : List ℕ} {r : Result ℕ NoRoom} {n : ℕ} → Wrote (replicate 48 0) 0 (handle_bytes h) r e → n ≡ result_unwrap_or r 0 → n ≡ 0 + length (handle_bytes h)
foot_next h w u = handle_end h w u (omega (arith, length-replicate {A = ℕ} 48 0))

-- ---- the metaindex

pub meta_framed : {i at : ℕ} {out out' name value : List ℕ} (c : Filtering) (h : Handle) → name ≡ meta_name c → value ≡ handle_bytes h
    → (1 ≤ i → i ≤ 1024 → length name ≤ 1032 → length value ≤ 32768 → Framed out at (block_bytes i (record { key = name; value = value } ∷ [])) out')
    → 1 ≤ i → i ≤ 1024 → Framed out at (meta_block i c h) out'
unfolding meta_block
meta_framed c h p q g l m = (rw (p, q) at g) l m (omega (arith, name_most c)) (omega (arith, handle_long h))

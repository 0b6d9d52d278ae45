-- Blocks and the footer, where they were written in a table.
use Prim.Native.Nat.{ℕ, ◌+◌, ◌-◌, ◌≤◌}
use mathlib.Core.Path.{◌≡◌, refl}
use mathlib.Core.List.{List, ◌++◌, append_assoc}
use mathlib.Core.Option.{some}
use native.Mathlib.Omega.{arith}
use lib.ListN.{length, drop, replicate, length-append, length-replicate}
use lib.Seq.{take_at, drop-append_seam}
use borrow.Author.Tests.{le-leb}
use Rattle.codec.specs.Bytes.{part}
use Rattle.checksum.specs.Checksum.{trailer}
use Rattle.codec.specs.Varint.{Handle, HandleRead, handle, handle_bytes}
use Rattle.codec.proofs.BytesLaws.{part_first, back_at, same_same}
use Rattle.checksum.proofs.TrailerLaws.{trailer_length, stands_written}
use Rattle.codec.proofs.VarintLaws.{Fits, handle_bytes_lem, handle_long}
use Rattle.table.specs.Checked.{pass, ◌>>=◌, ask, or_refuse}
use Rattle.table.specs.Options.{table_limit}
use Rattle.table.specs.Table.{magic, ends_before, placed, footer_handles, footer, contents, sealed}
use Rattle.table.specs.Build.{framed, footer_bytes}

pub framed_length : (s : List ℕ) → length (framed s) ≡ length s + 5
unfolding framed
framed_length s = simp (length-append, trailer_length)

-- ---- a block in its frame

-- the handle of contents that stand after some bytes
abbrev pub its : List ℕ → List ℕ → Handle
its pre s = record { offset = length pre; size = length s }

-- the numbers of a handle within a table are small enough
pub fits_within : (h : Handle) → h.offset + h.size ≤ table_limit → Fits h
fits_within h l = record { offset = omega arith; size = omega arith }

module _ (pre s post : List ℕ) where
  abbrev t : List ℕ
  t = pre ++ (framed s ++ post)

  pub framed_contents : contents t (its pre s) ≡ s
  unfolding contents framed
  framed_contents = simp (append_assoc, part_first)

  pub framed_sealed : sealed t (its pre s) ≡ pass tt
  unfolding sealed ask framed
  framed_sealed = rw (append_assoc s (trailer s) post, stands_written pre s post)

  pub framed_placed : length pre + length s + 5 + 48 ≤ length t → placed t (its pre s) ≡ pass tt
  unfolding placed ends_before ask
  framed_placed h = cc (le-leb (length pre + length s + 5) (length t - 48) (omega arith))

-- ---- the footer

footer_some : (t : List ℕ) (m i : HandleRead) → 48 ≤ length t → length t ≤ table_limit → drop (length t - 8) t ≡ magic
    → handle (part t (length t - 48) 40) ≡ some m → handle (drop m.size (part t (length t - 48) 40)) ≡ some i
    → placed t m.handle ≡ pass tt → placed t i.handle ≡ pass tt
    → footer t ≡ pass (record { metaindex = m.handle; index = i.handle })
unfolding footer footer_handles ◌>>=◌ ask or_refuse
footer_some t m i l u e hm hi pm pi = cc (le-leb 48 (length t) l, le-leb (length t) table_limit u, same_same magic)

magic_length : length magic ≡ 8
unfolding magic
magic_length = refl

module _ (m i : Handle) where
  abbrev hs : List ℕ
  hs = handle_bytes m ++ handle_bytes i

  hs_long : length hs ≤ 40
  hs_long = omega (arith, length-append (handle_bytes m) (handle_bytes i), handle_long m, handle_long i)

  -- whatever the handles
  pub footer_long : length (footer_bytes m i) ≡ 48
  unfolding footer_bytes
  footer_long = let l = hs_long in simp (length-append, length-replicate, magic_length) (omega (arith, length-append (handle_bytes m) (handle_bytes i)))

module _ (pre : List ℕ) (m i : Handle) where
  footer_magic : drop (length (pre ++ footer_bytes m i) - 8) (pre ++ footer_bytes m i) ≡ magic
  unfolding footer_bytes
  footer_magic = rw (← append_assoc (hs m i) (replicate (40 - length (hs m i)) 0) magic, ← append_assoc pre (hs m i ++ replicate (40 - length (hs m i)) 0) magic)
      (back_at (pre ++ (hs m i ++ replicate (40 - length (hs m i)) 0)) magic 8 magic_length)

  footer_part : part (pre ++ footer_bytes m i) (length (pre ++ footer_bytes m i) - 48) 40 ≡ handle_bytes m ++ (handle_bytes i ++ replicate (40 - length (hs m i)) 0)
  unfolding part footer_bytes
  footer_part =
      let r : List ℕ = replicate (40 - length (hs m i)) 0 in
      let lr : length r ≡ 40 - length (hs m i) = simp length-replicate in
      let h = hs_long m i in
      rw (
        back_at pre (footer_bytes m i) 48 (footer_long m i),
        ← append_assoc (hs m i) r magic,
        take_at (hs m i ++ r) magic 40 (omega (arith, length-append (hs m i) r)),
        append_assoc (handle_bytes m) (handle_bytes i) r,
      )

  pub footer_bytes_lem : length (pre ++ footer_bytes m i) ≤ table_limit
      → m.offset + m.size + 5 ≤ length pre → i.offset + i.size + 5 ≤ length pre
      → footer (pre ++ footer_bytes m i) ≡ pass (record { metaindex = m; index = i })
  unfolding placed ends_before ask
  footer_bytes_lem small lm li =
      let t = pre ++ footer_bytes m i in
      let l = length-append pre (footer_bytes m i) in
      let l48 = footer_long m i in
      footer_some t (record { handle = m; size = length (handle_bytes m) }) (record { handle = i; size = length (handle_bytes i) })
      (omega arith) small footer_magic
      (rw footer_part (handle_bytes_lem m _ (fits_within m (omega arith))))
      (rw (footer_part, drop-append_seam) (handle_bytes_lem i _ (fits_within i (omega arith))))
      (cc (le-leb (m.offset + m.size + 5) (length t - 48) (omega arith)))
      (cc (le-leb (i.offset + i.size + 5) (length t - 48) (omega arith)))

-- The trailer of a block: how it is written, and when it stands.
use Rattle.std.proofs.Common.{◌≡◌, ℕ, suc, ◌+◌, ◌^◌, ◌<◌, ◌≤◌, true, false, ◌&&◌, eqb, List, [], ◌∷◌, ◌++◌, length, get_or, drop, set, sym, ap, ◌∙◌, mod-lt, add-one, arith, lit<, length-drop, length-take, drop-cons, eq-eqb, ne_eqb}
use Rattle.std.specs.Prelude.{Result}
use Rattle.codec.specs.declared.put.NoRoom.{NoRoom}
use Rattle.codec.specs.Bytes.{part, bytes_of, number_of, same_bytes}
use Rattle.checksum.specs.Checksum.{crc_mask, crc_extend, seal_of, trailer, trailer_stands}
use Rattle.codec.specs.Put.{Wrote}
use Rattle.codec.proofs.Prelude.{test, true_is}
use Rattle.codec.proofs.Lists.{below_all}
use Rattle.codec.proofs.BytesLaws.{part_first, part_second_at, part_length, part_below, bytes_length, same_same, same_bytes_lem, same_number}
use Rattle.codec.proofs.PutLaws.{wrote_cons}
use Rattle.checksum.proofs.CrcLaws.{extend_append}

-- the checksum goes on over the type
pub seal_is : (s : List ℕ) → crc_mask (crc_extend (crc_extend 0 s) (0 ∷ [])) ≡ seal_of s
unfolding seal_of
seal_is s = ap crc_mask (sym (extend_append 0 s (0 ∷ [])))

seal_fits : (s : List ℕ) → seal_of s < 2 ^ 32
unfolding seal_of crc_mask
seal_fits s = mod-lt _ (lit< tt)

pub trailer_length : (s : List ℕ) → length (trailer s) ≡ 5
unfolding trailer
trailer_length s = ap suc (bytes_length 4 (seal_of s))

-- ---- writing

pub wrote_trailer : (d : List ℕ) (offset size sum : ℕ) (r : Result ℕ NoRoom) (e : List ℕ) → offset + size + 5 ≤ length d → sum ≡ seal_of (part d offset size)
    → Wrote (set d (offset + size) 0) (offset + size + 1) (bytes_of 4 sum) r e → Wrote d (offset + size) (trailer (part d offset size)) r e
unfolding trailer
wrote_trailer d offset size sum r e h q w =
    wrote_cons d (offset + size) 0 (bytes_of 4 (seal_of (part d offset size))) r e (omega (arith, bytes_length 4 (seal_of (part d offset size)))) (rw q at w)

-- ---- standing

-- it stands where it was written
pub stands_written : (pre s post : List ℕ) → trailer_stands (pre ++ (s ++ (trailer s ++ post))) (length pre) (length s) ≡ true
unfolding trailer_stands
stands_written pre s post = rw (part_first pre s (trailer s ++ post), part_second_at pre s (trailer s) post 5 (trailer_length s), same_same (trailer s))

module _ (t : List ℕ) (offset size : ℕ) where
  pub stands_within : trailer_stands t offset size ≡ true → offset + size + 5 ≤ length t
  unfolding trailer_stands part
  stands_within e =
      let l = ap length (same_bytes_lem (part t (offset + size) 5) (trailer (part t offset size)) (true_is e)) in
      omega (arith, trailer_length (part t offset size), length-take 5 (drop (offset + size) t), length-drop (offset + size) t)

  -- t ends before
  pub stands_short : length t < offset + size + 5 → false ≡ trailer_stands t offset size
  stands_short h = test (trailer_stands t offset size) (λ e. absurd (omega (arith, stands_within e))) (λ e. sym e)

  module _ (there : offset + size + 5 ≤ length t) where
    -- byte by byte
    first : trailer_stands t offset size ≡ eqb (get_or t (offset + size) 0) 0 && same_bytes (part t (offset + size + 1) 4) (bytes_of 4 (seal_of (part t offset size)))
    unfolding trailer_stands trailer part same_bytes
    first = rw (drop-cons t (offset + size) 0 (omega arith), add-one)

    -- another type
    pub stands_type : (get_or t (offset + size) 0 ≡ 0 → ⊥) → false ≡ trailer_stands t offset size
    stands_type h = sym (first ∙ rw (ne_eqb (get_or t (offset + size) 0) 0 h))

    -- the type: by the number of the checksum
    pub stands_sum : ((i : ℕ) → get_or t i 0 < 256) → get_or t (offset + size) 0 ≡ 0
        → eqb (number_of (part t (offset + size + 1) 4)) (seal_of (part t offset size)) ≡ trailer_stands t offset size
    stands_sum bytes h =
        let l : length (part t (offset + size + 1) 4) ≡ 4 = part_length t (offset + size + 1) 4 (omega arith) in
        sym (first ∙ rw (eq-eqb (get_or t (offset + size) 0) 0 h) (rw l at (same_number (part t (offset + size + 1) 4) (seal_of (part t offset size))
        (part_below 256 t (offset + size + 1) 4 (below_all 256 t bytes)) (rw l (seal_fits (part t offset size))))))

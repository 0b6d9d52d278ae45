-- The footer, as code decodes it: the magic as a number, where a block may stand, and both handles.
use Prim.Native.Nat.{ℕ, ◌+◌, ◌-◌, ◌≤◌, ◌<◌, ◌^◌}
use mathlib.Core.Path.{◌≡◌, refl, sym, ap, ◌∙◌}
use mathlib.Core.Bool.{true, false}
use mathlib.Core.List.{List}
use native.Mathlib.Omega.{arith}
use lib.Dec.{leb, eqb, lit<}
use lib.ListN.{length, take, drop, get_or, length-drop}
use borrow.Author.Tests.{le-leb, lt-leb, leb-true, leb-false}
use Rattle.std.specs.Prelude.{Ok, Err, None, Some}
use Rattle.codec.specs.Answers.{given}
use Rattle.codec.specs.Bytes.{part, bytes_of, number_of, number_at, same_bytes}
use Rattle.codec.specs.Varint.{HandleRead, handle}
use Rattle.codec.proofs.FixedLaws.{number_in_lem, number_read}
use Rattle.codec.proofs.GivenLaws.{said}
use Rattle.codec.proofs.Prelude.{test, apart}
use Rattle.codec.proofs.Lists.{below_all, below_drop}
use Rattle.codec.proofs.BytesLaws.{part_end, same_number}
use Rattle.table_block.specs.declared.footer.Footer as Declared
use Rattle.table_block.specs.declared.refusal.Refusal.{Refusal}
use Rattle.table_block.specs.declared.refusal.Refusal.TheVariants.{NoTable, Outside}
use Rattle.table_block.specs.Refusals.{refusal}
use Rattle.table_block.specs.Answers.{footer_answer}
use Rattle.table.specs.Checked.{Checked, pass, refuse, ◌>>=◌, ask, or_refuse}
use Rattle.table.specs.Options.{table_limit}
use Rattle.table.specs.Table.{magic, ends_before, placed, Footer, footer_handles, footer}

-- ---- where a block may stand

module _ (len offset size : ℕ) where
  pub ends_short : len < 53 → false ≡ ends_before len offset size
  unfolding ends_before
  ends_short h = sym (lt-leb (offset + size + 5) (len - 48) (omega arith))

  module _ (room : ℕ) (is : room + 53 ≡ len) where
    pub ends_over : room < offset → false ≡ ends_before len offset size
    unfolding ends_before
    ends_over h = sym (lt-leb (offset + size + 5) (len - 48) (omega arith))

    pub ends_within : offset ≤ room → leb size (room - offset) ≡ ends_before len offset size
    unfolding ends_before
    ends_within o =
        test (leb size (room - offset))
        (λ t. let h = leb-true size (room - offset) t in t ∙ sym (le-leb (offset + size + 5) (len - 48) (omega arith)))
        (λ t. let h = leb-false size (room - offset) t in t ∙ sym (lt-leb (offset + size + 5) (len - 48) (omega arith)))

-- ---- the magic

magic_is : magic ≡ bytes_of 8 0xdb47_7524_8b80_fb57
unfolding magic bytes_of
magic_is = refl

magic_number : (t : List ℕ) → 48 ≤ length t → ((i : ℕ) → get_or t i 0 < 256)
    → eqb (number_of (part t (length t - 8) 8)) 0xdb47_7524_8b80_fb57 ≡ same_bytes (drop (length t - 8) t) magic
magic_number t l b =
    let w = part_end t (length t - 8) 8 (omega arith) in
    let n : length (drop (length t - 8) t) ≡ 8 = simp length-drop (omega arith) in
    let m : magic ≡ bytes_of (length (drop (length t - 8) t)) 0xdb47_7524_8b80_fb57 = rw n magic_is in
    rw (w, m) (sym (same_number (drop (length t - 8) t) 0xdb47_7524_8b80_fb57 (below_drop 256 (length t - 8) t (below_all 256 t b)) (rw n (lit< tt))))

-- the last 8 bytes are there to be read
pub magic_there : (t : List ℕ) → 48 ≤ length t → given (number_at 8 t (length t - 8)) ≡ Some (number_of (part t (length t - 8) 8))
unfolding given
magic_there t l = rw (number_in_lem 8 t (length t - 8) (omega arith))

-- and what reading them says
pub magic_read : (t : List ℕ) → 48 ≤ length t → {x : ℕ} → ((i : ℕ) → get_or t i 0 < 256) → given (number_at 8 t (length t - 8)) ≡ Some x
    → eqb x 0xdb47_7524_8b80_fb57 ≡ same_bytes (drop (length t - 8) t) magic
magic_read t l b e = rw (number_read 8 t (length t - 8) (omega arith) (said _ e)) (magic_number t l b)

-- ---- both handles

module _ (t s : List ℕ) where
  pub no_meta : given (handle s) ≡ None → Err Outside ≡ footer_answer (footer_handles t s)
  unfolding footer_handles footer_answer ◌>>=◌ or_refuse
  no_meta e = rw (said (handle s) e)

  module _ {m : HandleRead} (e : given (handle s) ≡ Some m) where
    pub no_index : given (handle (drop m.size s)) ≡ None → Err Outside ≡ footer_answer (footer_handles t s)
    unfolding footer_handles footer_answer ◌>>=◌ or_refuse
    no_index f = rw (said (handle s) e, said (handle (drop m.size s)) f)

    module _ {i : HandleRead} (f : given (handle (drop m.size s)) ≡ Some i) where
      pub meta_out : ends_before (length t) m.handle.offset m.handle.size ≡ false → Err Outside ≡ footer_answer (footer_handles t s)
      unfolding footer_handles footer_answer placed ask ◌>>=◌ or_refuse
      meta_out p = rw (said (handle s) e, said (handle (drop m.size s)) f, p)

      pub index_out : ends_before (length t) m.handle.offset m.handle.size ≡ true → ends_before (length t) i.handle.offset i.handle.size ≡ false → Err Outside ≡ footer_answer (footer_handles t s)
      unfolding footer_handles footer_answer placed ask ◌>>=◌ or_refuse
      index_out p q = rw (said (handle s) e, said (handle (drop m.size s)) f, p, q)

      pub both_in : ends_before (length t) m.handle.offset m.handle.size ≡ true → ends_before (length t) i.handle.offset i.handle.size ≡ true
          → Ok (record { metaindex = m.handle; index = i.handle }) ≡ footer_answer (footer_handles t s)
      unfolding footer_handles footer_answer placed ask ◌>>=◌ or_refuse
      both_in p q = rw (said (handle s) e, said (handle (drop m.size s)) f, p, q)

-- ---- the whole

module _ (t : List ℕ) where
  pub too_short : length t < 48 → Err NoTable ≡ footer_answer (footer t)
  unfolding footer footer_answer ask ◌>>=◌
  too_short h = rw (lt-leb 48 (length t) h)

  module _ (l : 48 ≤ length t) where
    pub too_long : 2 ^ 24 < length t → Err NoTable ≡ footer_answer (footer t)
    unfolding footer footer_answer ask ◌>>=◌
    too_long h = rw (le-leb 48 (length t) l, lt-leb (length t) table_limit h)

    module _ (u : length t ≤ 2 ^ 24) where
      pub no_magic : same_bytes (drop (length t - 8) t) magic ≡ false → Err NoTable ≡ footer_answer (footer t)
      unfolding footer footer_answer ask ◌>>=◌
      no_magic e = rw (le-leb 48 (length t) l, le-leb (length t) table_limit u, e)

      pub by_handles : same_bytes (drop (length t - 8) t) magic ≡ true → footer t ≡ footer_handles t (part t (length t - 48) 40)
      unfolding footer ask ◌>>=◌
      by_handles e = rw (le-leb 48 (length t) l, le-leb (length t) table_limit u, e)

-- the 40 bytes before the magic, as code hands them on
pub part_is : (t : List ℕ) → 48 ≤ length t → take (length t - 8 - (length t - 48)) (drop (length t - 48) t) ≡ part t (length t - 48) 40
unfolding part
part_is t l = let e : length t - 8 - (length t - 48) ≡ 40 = omega arith in rw e

-- ---- what decoding says of the footer

pub footer_passed : (f : Checked Footer) {x : Declared.Footer} → footer_answer f ≡ Ok x → f ≡ pass (record { metaindex = x.metaindex; index = x.index })
unfolding footer_answer
footer_passed (pass f) {x} e =
    let same : record { metaindex = f.metaindex; index = f.index } ≡ x = cc in
    ap (λ (y : Declared.Footer). pass (record { metaindex = y.metaindex; index = y.index })) same
footer_passed (refuse n) e = apart cc

pub footer_refused : (f : Checked Footer) {r : Refusal} → footer_answer f ≡ Err r → (n : ℕ) × (f ≡ refuse n) × (refusal n ≡ r)
unfolding footer_answer
footer_refused (pass f) e = apart cc
footer_refused (refuse n) e = (n, refl, cc)

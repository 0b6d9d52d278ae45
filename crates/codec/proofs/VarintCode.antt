-- What the code's loops over varints go by, and what its answers say.
use Prim.Native.Nat.{ℕ, zero, suc, ◌+◌, ◌-◌, ◌*◌, ◌/◌, ◌%◌, ◌^◌, ◌≤◌, ◌<◌}
use mathlib.Core.Path.{◌≡◌, refl, ap, ap₂, ◌∙◌}
use mathlib.Core.List.{List, ◌∷◌}
use mathlib.Core.Option.{some}
use native.Mathlib.Nat.{div-lt_iff_lt-mul, mul-le-mul_right, pow-le-pow_right, pow-suc}
use native.Mathlib.Numerals.{add-one}
use native.Mathlib.Omega.{arith}
use lib.Dec.{lit<}
use lib.ListN.{length, get_or, drop, drop_of_length-le}
use lib.Seq.{drop-cons}
use Rattle.std.specs.Prelude.{None, Some}
use Rattle.codec.specs.declared.varint.Varint.{Varint}
use Rattle.codec.specs.Maybe.{◌>>=◌}
use Rattle.codec.specs.Varint.{varint_from, varint, varint_bytes_f, HandleRead, handle, one_handle}
use Rattle.codec.specs.Answers.{given}
use Rattle.codec.proofs.GivenLaws.{said, gives_none, gives_some}
use Rattle.codec.proofs.VarintLaws.{resume, resume_more, from_nil, from_last, from_more, varint_none, varint_over, varint_some, bytes_more, varint_size_lem, handle_size_lem, handle_half, handle_some, one_some, one_left}

-- ---- reading: what is left at i, after what was read, is all of s

abbrev pub Left : List ℕ → ℕ → ℕ → ℕ → Type 0
Left s v u i = varint_from 10 s ≡ resume v u i (varint_from (10 - i) (drop i s))

module _ (s : List ℕ) (v u i : ℕ) (left : Left s v u i) where
  -- no byte
  pub left_none : length s ≤ i → None ≡ given (varint s)
  unfolding resume given
  left_none h = rw (varint_none s (left ∙ rw (drop_of_length-le s h, from_nil (10 - i))))

  module _ (ten : i ≤ 9) (there : i < length s) where
    next : varint_from (10 - i) (drop i s) ≡ varint_from (suc (9 - i)) (get_or s i 0 ∷ drop (i + 1) s)
    next = ap₂ varint_from (omega arith) (rw add-one (drop-cons s i 0 there))

    -- the last byte
    last : get_or s i 0 < 128 → varint_from 10 s ≡ some (record { value = v + get_or s i 0 * u; size = i + 1 })
    unfolding resume
    last b = left ∙ ap (resume v u i) (next ∙ from_last (9 - i) (get_or s i 0) (drop (i + 1) s) b)

    -- which the number fits, or not
    pub left_last : get_or s i 0 < 128 → v + get_or s i 0 * u < 2 ^ 64 → Some (record { value = v + get_or s i 0 * u; size = i + 1 }) ≡ given (varint s)
    unfolding given
    left_last b h = rw (varint_some s _ (last b) h)

    pub left_over : get_or s i 0 < 128 → 2 ^ 64 ≤ v + get_or s i 0 * u → None ≡ given (varint s)
    unfolding given
    left_over b h = rw (varint_over s _ (last b) h)

    -- a byte that says that more follow
    pub left_more : 128 ≤ get_or s i 0 → Left s (v + (get_or s i 0 - 128) * u) (u * 128) (i + 1)
    left_more b =
        left
        ∙ ap (resume v u i) (next ∙ from_more (9 - i) (get_or s i 0) (drop (i + 1) s) b)
        ∙ resume_more v u i (get_or s i 0 - 128) (varint_from (9 - i) (drop (i + 1) s))
        ∙ ap (λ (k : ℕ). resume (v + (get_or s i 0 - 128) * u) (u * 128) (i + 1) (varint_from k (drop (i + 1) s))) (omega arith)

-- after ten bytes nothing is read
pub left_ten : (s : List ℕ) (v u : ℕ) → Left s v u 10 → None ≡ given (varint s)
unfolding varint_from resume given
left_ten s v u left = rw (varint_none s left)

-- g read behind v, at a unit of u: what is read then is below the next unit, and that is at most 2 ^ 63
pub record Grown (v g u : ℕ) : Type 0 where
  pub under : v + g * u < u * 128
  pub fits : u * 128 ≤ 2 ^ 63

pub group_fits : {v g u : ℕ} (i : ℕ) → g < 128 → v < u → u ≡ 128 ^ i → i < 9 → Grown v g u
group_fits {v} {g} {u} i hg hv e h =
    let n : g ≤ 127 = omega arith in
    let m : u ≤ 2 ^ 56 = rw e (pow-le-pow_right (lit< tt) {i = i} {j = 8} (omega arith)) in
    record { under = omega (arith, mul-le-mul_right u n); fits = omega arith }

-- ---- writing: a turn takes the first byte of x, and leaves the bytes of x / 128

pub bytes_turn : (k x : ℕ) → x < 128 ^ suc k → 128 ≤ x
    → (j : ℕ) × (suc j ≡ k) × (x / 128 < 128 ^ suc j) × (varint_bytes_f (suc k) x ≡ (x % 128 + 128) ∷ varint_bytes_f (suc j) (x / 128))
bytes_turn zero x h l = absurd (omega arith)
bytes_turn (suc k) x h l = (k, refl, (div-lt_iff_lt-mul (lit< tt)).1 (rw (← pow-suc) h), bytes_more (suc k) x l)

-- ---- what an answer says

pub varint_within : (s : List ℕ) {r : Varint} → given (varint s) ≡ Some r → r.size ≤ length s
varint_within s e = (varint_size_lem s (said _ e)).there

pub handle_within : (s : List ℕ) {r : HandleRead} → given (handle s) ≡ Some r → r.size ≤ length s
handle_within s e = (handle_size_lem s (said _ e)).there

-- ---- a handle by the answers on its two numbers, and one handle by the answer on a handle

module _ (s : List ℕ) where
  pub no_offset : given (varint s) ≡ None → None ≡ given (handle s)
  unfolding given handle ◌>>=◌
  no_offset e = rw (said (varint s) e)

  pub no_size : {r : Varint} → given (varint s) ≡ Some r → given (varint (drop r.size s)) ≡ None → None ≡ given (handle s)
  no_size e f = gives_none (handle_half s _ (said _ e) (said _ f))

  pub both : {r t : Varint} → given (varint s) ≡ Some r → given (varint (drop r.size s)) ≡ Some t
      → Some (record { handle = record { offset = r.value; size = t.value }; size = r.size + t.size }) ≡ given (handle s)
  both e f = gives_some (handle_some s _ _ (said _ e) (said _ f))

  pub none_there : given (handle s) ≡ None → None ≡ given (one_handle s)
  unfolding given one_handle ◌>>=◌
  none_there e = rw (said (handle s) e)

  pub one_there : {r : HandleRead} → given (handle s) ≡ Some r → r.size ≡ length s → Some r.handle ≡ given (one_handle s)
  one_there e h = gives_some (one_some s _ (said _ e) h)

  pub more_there : {r : HandleRead} → given (handle s) ≡ Some r → (r.size ≡ length s → ⊥) → None ≡ given (one_handle s)
  more_there e h = gives_none (one_left s _ (said _ e) h)

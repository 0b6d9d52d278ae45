-- Varints and handles: what was written is read back, and what is read takes at least a byte and no more than there are.
use Prim.Native.Nat.{ℕ, zero, suc, ◌+◌, ◌*◌, ◌-◌, ◌/◌, ◌%◌, ◌^◌, ◌≤◌, ◌<◌, suc-le-suc}
use mathlib.Core.Path.{◌≡◌, refl, ap, ◌∙◌}
use mathlib.Core.List.{List, [], ◌∷◌, ◌++◌, append_assoc, append-nil}
use mathlib.Core.Option.{Option, none, some, some_inj, none-ne-some}
use native.Mathlib.Nat.{add-mul, mul_assoc}
use native.Mathlib.Omega.{arith}
use lib.Dec.{ltb}
use lib.ListN.{length, drop, length-append, length-drop}
use lib.Seq.{drop-append_seam}
use borrow.Author.Tests.{lt-ltb, le-ltb, eq-eqb, ne_eqb}
use Rattle.codec.specs.Maybe.{◌>>=◌, ask}
use Rattle.codec.specs.Varint.{Read, varint, varint_from, varint_bytes, varint_bytes_f, Handle, HandleRead, handle, one_handle, handle_bytes}
use Rattle.codec.proofs.Prelude.{test, split}
use Rattle.codec.proofs.MaybeLaws.{getting, giving}

-- ---- reading

-- what is read after i bytes, whose number is v and after which a number counts u times
unfoldable pub resume : ℕ → ℕ → ℕ → Option Read → Option Read
resume v u i none = none
resume v u i (some r) = some (record { value = v + r.value * u; size = i + r.size })

-- two reads are one where their numbers are
pub read_is : {v w m n : ℕ} → v ≡ w → m ≡ n → ◌≡◌ {A = Option Read} (some (record { value = v; size = m })) (some (record { value = w; size = n }))
read_is p q i = some (record { value = p i; size = q i })

pub resume_start : (o : Option Read) → o ≡ resume 0 1 0 o
unfolding resume
resume_start none = refl
resume_start (some r) = read_is (omega arith) (omega arith)

pub resume_more : (v u i g : ℕ) (o : Option Read) → resume v u i (resume g 128 1 o) ≡ resume (v + g * u) (u * 128) (i + 1) o
unfolding resume
resume_more v u i g none = refl
resume_more v u i g (some r) = read_is (omega (arith, add-mul g (r.value * 128) u, mul_assoc r.value 128 u, mul_assoc r.value u 128)) (omega arith)

pub from_nil : (n : ℕ) → varint_from n [] ≡ none
unfolding varint_from
from_nil zero = refl
from_nil (suc n) = refl

pub from_last : (n b : ℕ) (bs : List ℕ) → b < 128 → varint_from (suc n) (b ∷ bs) ≡ some (record { value = b; size = 1 })
unfolding varint_from
from_last n b bs h = rw (lt-ltb b 128 h, varint_from)

pub from_more : (n b : ℕ) (bs : List ℕ) → 128 ≤ b → varint_from (suc n) (b ∷ bs) ≡ resume (b - 128) 128 1 (varint_from n bs)
unfolding varint_from
from_more n b bs h = rw (le-ltb b 128 h, varint_from) (more (varint_from n bs))
  where
    more : (o : Option Read) → (o >>= λ r. some (record { value = b - 128 + 128 * r.value; size = suc r.size })) ≡ resume (b - 128) 128 1 o
    more none = unfold ◌>>=◌ resume in refl
    more (some r) = unfold ◌>>=◌ resume in read_is (omega arith) (omega arith)

pub varint_none : (s : List ℕ) → varint_from 10 s ≡ none → varint s ≡ none
unfolding varint ◌>>=◌
varint_none s e = rw e

pub varint_over : (s : List ℕ) (r : Read) → varint_from 10 s ≡ some r → 2 ^ 64 ≤ r.value → varint s ≡ none
unfolding varint ◌>>=◌ ask
varint_over s r e h = cc (le-ltb r.value (2 ^ 64) h)

pub varint_some : (s : List ℕ) (r : Read) → varint_from 10 s ≡ some r → r.value < 2 ^ 64 → varint s ≡ some r
unfolding varint ◌>>=◌ ask
varint_some s r e h = cc (lt-ltb r.value (2 ^ 64) h)

-- ---- writing

pub bytes_last : (n x : ℕ) → x < 128 → varint_bytes_f (suc n) x ≡ x ∷ []
unfolding varint_bytes_f
bytes_last n x h = rw (lt-ltb x 128 h, varint_bytes_f)

pub bytes_more : (n x : ℕ) → 128 ≤ x → varint_bytes_f (suc n) x ≡ (x % 128 + 128) ∷ varint_bytes_f n (x / 128)
unfolding varint_bytes_f
bytes_more n x h = rw (le-ltb x 128 h, varint_bytes_f)

bytes_most : (n x : ℕ) → length (varint_bytes_f n x) ≤ n
unfolding varint_bytes_f
bytes_most zero x = omega arith
bytes_most (suc n) x = split x 128 (λ h. rw (bytes_last n x h) (omega arith)) (λ h. rw (bytes_more n x h) (suc-le-suc (bytes_most n (x / 128))))

pub varint_bytes_length : (x : ℕ) → length (varint_bytes x) ≤ 10
unfolding varint_bytes
varint_bytes_length x = bytes_most 10 x

pub bytes_some : (n x : ℕ) → 1 ≤ length (varint_bytes_f (suc n) x)
bytes_some n x = split x 128 (λ h. rw (bytes_last n x h) (omega arith)) (λ h. rw (bytes_more n x h) (omega arith))

pub varint_one : (x : ℕ) → 1 ≤ length (varint_bytes x)
unfolding varint_bytes
varint_one x = bytes_some 9 x

-- ---- what was written is read back

from_bytes : (n x : ℕ) (rest : List ℕ) → x < 128 ^ suc n
    → varint_from (suc n) (varint_bytes_f (suc n) x ++ rest) ≡ some (record { value = x; size = length (varint_bytes_f (suc n) x) })
unfolding resume
from_bytes zero x rest h =
    let l : x < 128 = omega arith in
    rw (bytes_last 0 x l) (from_last 0 x rest l)
from_bytes (suc n) x rest h =
    split x 128
    (λ l. rw (bytes_last (suc n) x l) (from_last (suc n) x rest l))
    (λ l. rw (bytes_more (suc n) x l)
    (from_more (suc n) (x % 128 + 128) (varint_bytes_f (suc n) (x / 128) ++ rest) (omega arith)
    ∙ ap (resume (x % 128 + 128 - 128) 128 1) (from_bytes n (x / 128) rest (omega arith))
    ∙ read_is (omega arith) (omega arith)))

pub varint_bytes_lem : (x : ℕ) (rest : List ℕ) → x < 2 ^ 64
    → varint (varint_bytes x ++ rest) ≡ some (record { value = x; size = length (varint_bytes x) })
unfolding varint_bytes
varint_bytes_lem x rest h = varint_some _ _ (from_bytes 9 x rest (omega arith)) h

-- ---- sizes of what is read

pub record Sized (s : List ℕ) (n : ℕ) : Type 0 where
  pub some_byte : 1 ≤ n
  pub there : n ≤ length s

from_size : (n : ℕ) (s : List ℕ) {r : Read} → varint_from n s ≡ some r → Sized s r.size
unfolding varint_from
from_size zero s {r} p = absurd (none-ne-some r p)
from_size (suc n) [] {r} p = absurd (none-ne-some r p)
from_size (suc n) (b ∷ bs) {r} p =
    test (ltb b 128)
    (λ t. let e : 1 ≡ r.size = ap (λ (q : Read). q.size) (some_inj.0 (rw (t, varint_from) at p)) in record { some_byte = omega arith; there = omega arith })
    (λ t.
    getting _ _ (rw (t, varint_from) at p) λ q read p.
    let ih = from_size n bs read in
    let e : suc q.size ≡ r.size = ap (λ (q : Read). q.size) (some_inj.0 p) in
    record { some_byte = omega arith; there = omega arith })

pub varint_size_lem : (s : List ℕ) {r : Read} → varint s ≡ some r → Sized s r.size
unfolding varint
varint_size_lem s {r} p =
    getting _ _ p λ q read p.
    giving _ _ p λ small p.
    rw (some_inj.0 p) at (from_size 10 s read)

-- ---- handles

-- a number that was written, and its bytes
abbrev pub whole : ℕ → Read
whole x = record { value = x; size = length (varint_bytes x) }

pub record Fits (h : Handle) : Type 0 where
  pub offset : h.offset < 2 ^ 64
  pub size : h.size < 2 ^ 64

pub handle_size_lem : (s : List ℕ) {r : HandleRead} → handle s ≡ some r → Sized s r.size
unfolding handle
handle_size_lem s {r} p =
    getting _ _ p λ a ra p.
    getting _ _ p λ b rb p.
    let e : a.size + b.size ≡ r.size = ap (λ (x : HandleRead). x.size) (some_inj.0 p) in
    let sa = varint_size_lem s ra in
    let sb = varint_size_lem (drop a.size s) rb in
    record { some_byte = omega arith; there = omega (arith, length-drop a.size s) }

pub handle_half : (s : List ℕ) (a : Read) → varint s ≡ some a → varint (drop a.size s) ≡ none → handle s ≡ none
unfolding handle ◌>>=◌
handle_half s a e g = cc

pub handle_some : (s : List ℕ) (a b : Read) → varint s ≡ some a → varint (drop a.size s) ≡ some b
    → handle s ≡ some (record { handle = record { offset = a.value; size = b.value }; size = a.size + b.size })
unfolding handle ◌>>=◌
handle_some s a b e g = cc

pub handle_bytes_lem : (h : Handle) (rest : List ℕ) → Fits h
    → handle (handle_bytes h ++ rest) ≡ some (record { handle = h; size = length (handle_bytes h) })
unfolding handle_bytes
handle_bytes_lem h rest f =
    simp (append_assoc, length-append)
    (handle_some (varint_bytes h.offset ++ (varint_bytes h.size ++ rest)) (whole h.offset) (whole h.size)
    (varint_bytes_lem h.offset _ f.offset) (rw drop-append_seam (varint_bytes_lem h.size rest f.size)))

pub handle_long : (h : Handle) → length (handle_bytes h) ≤ 20
unfolding handle_bytes
handle_long h = simp length-append (omega (arith, varint_bytes_length h.offset, varint_bytes_length h.size))

pub one_some : (s : List ℕ) (r : HandleRead) → handle s ≡ some r → r.size ≡ length s → one_handle s ≡ some r.handle
unfolding one_handle ◌>>=◌ ask
one_some s r e h = cc (eq-eqb r.size (length s) h)

pub one_left : (s : List ℕ) (r : HandleRead) → handle s ≡ some r → (r.size ≡ length s → ⊥) → one_handle s ≡ none
unfolding one_handle ◌>>=◌ ask
one_left s r e h = cc (ne_eqb r.size (length s) h)

pub one_handle_lem : (h : Handle) → Fits h → one_handle (handle_bytes h) ≡ some h
one_handle_lem h f = one_some (handle_bytes h) (record { handle = h; size = length (handle_bytes h) }) (rw append-nil at (handle_bytes_lem h [] f)) refl

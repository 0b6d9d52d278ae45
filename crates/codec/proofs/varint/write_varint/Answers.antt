-- `codec::varint::write_varint` meets its contract. The invariant: to store the bytes of what is left at i is to store the bytes of x at the place.
use mathlib.Core.Path.{◌≡◌, refl, sym, ap, ◌∙◌}
use mathlib.Core.List.{◌∷◌, []}
use Prim.Native.Nat.{ℕ, suc, ◌+◌, ◌-◌, ◌/◌, ◌%◌, ◌^◌, ◌≤◌, ◌<◌}
use native.Mathlib.Numerals.{add-one}
use native.Mathlib.Omega.{arith}
use lib.ListN.{length, length-set}
use lib.Seq.{sets}
use Rattle.codec.specs.Varint.{varint_bytes_f, varint_bytes}
use Rattle.codec.proofs.Prelude.{split}
use Rattle.codec.proofs.PutLaws.{wrote_exit, wrote_sets}
use Rattle.codec.proofs.VarintLaws.{bytes_last, bytes_some, varint_one}
use Rattle.codec.proofs.VarintCode.{bytes_turn}
use Rattle.codec.proofs.varint.write_varint.Goals as goal
use Rattle.codec.proofs.varint.write_varint.Goals.{After-loop-i, In-loop-i}

pub returns-in_err-end : goal.returns-in_err-end
returns-in_err-end c = wrote_exit c.from_residual.ensures.0 (omega (arith, c.in_err-end.ensures, c.varint_len.ensures))

pub overflow_sub-i-end : goal.overflow_sub-i-end
overflow_sub-i-end c = omega (arith, c.in_ok-end.ensures, c.varint_len.ensures, varint_one c.args.x)

pub loop-i-init : goal.loop-i-init
unfolding varint_bytes
loop-i-init c = (9, omega arith, omega (arith, c.in_ok-end.ensures, c.varint_len.ensures), refl, refl)

-- a last byte is the only one that is left
last_one : (k x : ℕ) → x < 128 → length (varint_bytes_f (suc k) x) ≡ 1
last_one k x h = ap length (bytes_last k x h)

-- in a turn more than one is left
more : (c : In-loop-i) → 128 ≤ c.loop-i.left
more c = let l = c.loop-i in split l.left 128 (λ h. absurd (omega (arith, last_one l.invariant.0 l.left h))) (λ h. h)

turn : (c : In-loop-i) → (j : ℕ) × (suc j ≡ c.loop-i.invariant.0) × (c.loop-i.left / 128 < 128 ^ suc j) × (varint_bytes_f (suc c.loop-i.invariant.0) c.loop-i.left ≡ (c.loop-i.left % 128 + 128) ∷ varint_bytes_f (suc j) (c.loop-i.left / 128))
turn c = bytes_turn c.loop-i.invariant.0 c.loop-i.left c.loop-i.invariant.1 (more c)

-- after the loop one is left
small : (c : After-loop-i) → c.loop-i.left < 128
small c = let l = c.loop-i in
    let e = c.in_ok-end.ensures in
    split l.left 128 (λ h. h) (λ h.
    let t = bytes_turn l.invariant.0 l.left l.invariant.1 h in
    absurd (omega (arith, e, ap length t.3, bytes_some t.0 (l.left / 128))))

stop : (c : After-loop-i) → varint_bytes_f (suc c.loop-i.invariant.0) c.loop-i.left ≡ c.loop-i.left ∷ []
stop c = bytes_last c.loop-i.invariant.0 c.loop-i.left (small c)

pub loop-i-preserved : goal.loop-i-preserved
loop-i-preserved c = let l = c.loop-i in
    let t = turn c in (
      t.0,
      t.2,
      omega (arith, ap length t.3),
      rw add-one (ap (sets l.out l.i) (sym t.3) ∙ l.invariant.3),
      length-set l.out l.i _ ∙ l.invariant.4,
    )

pub overflow_cast-out-2 : goal.overflow_cast-out-2
overflow_cast-out-2 c = omega (arith, small c)

pub overflow_sub-out : goal.overflow_sub-out
overflow_sub-out c = omega (arith, ap length (stop c))

pub bounds-out-end : goal.bounds-out-end
bounds-out-end c = omega (arith, ap length (stop c), c.in_ok-end.ensures)

pub returns : goal.returns
returns c = let l = c.loop-i in
    let e = c.in_ok-end.ensures in
    let n = c.varint_len.ensures in
    let i : c.in_ok-end.end - 1 ≡ l.i = omega (arith, ap length (stop c)) in
    wrote_sets _ _ _ _ _ (omega (arith, e, n)) (omega (arith, e, n)) (rw i (ap (sets l.out l.i) (sym (stop c)) ∙ l.invariant.3))

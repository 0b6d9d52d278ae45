-- `codec::varint::read_varint` meets its contract. The invariant of its loop: what is left to read, put behind what was read, is the whole.
use mathlib.Core.Path.{◌≡◌, refl, ap, ◌∙◌, subst}
use Prim.Native.Nat.{ℕ, ◌-◌, ◌*◌, ◌^◌, ◌≤◌, ◌<◌}
use native.Mathlib.Nat.{mul-le-mul_right, pow-suc}
use native.Mathlib.Numerals.{add-one}
use native.Mathlib.Omega.{arith}
use borrow.Author.Rules.{rules}
use lib.ListN.{length, get_or}
use Rattle.codec.specs.Varint.{varint_from}
use Rattle.codec.proofs.Prelude.{split}
use Rattle.codec.proofs.VarintLaws.{resume_start}
use Rattle.codec.proofs.VarintCode.{Left, Grown, group_fits, left_none, left_last, left_over, left_more, left_ten}
use Rattle.codec.proofs.varint.read_varint.Goals as goal
use Rattle.codec.proofs.varint.read_varint.Goals.{In_ok-last, Else-b-lt128, Then-b-lt128}

pub loop-i-init : goal.loop-i-init
loop-i-init c = (search rules, refl, resume_start (varint_from 10 _))

pub returns-in_err-b : goal.returns-in_err-b
returns-in_err-b c = c.from_residual.ensures ∙ left_none _ _ _ _ c.loop-i.invariant.2 (search rules)

-- a group that is the last: it is the byte at i, and fits
module _ (c : Then-b-lt128) where
  there : c.loop-i.i < length c.args.s.now
  there = search rules

  byte_is : c.in_ok-b.field-0.now ≡ get_or c.args.s.now c.loop-i.i 0
  byte_is = search rules

  last_fits : Grown c.loop-i.value c.in_ok-b.field-0.now c.loop-i.unit
  last_fits =
      let l = c.loop-i in
      group_fits l.i c.if-b-lt128.true l.invariant.0 l.invariant.1 (search rules)

pub overflow_mul-result : goal.overflow_mul-result
overflow_mul-result c = omega (arith, last_fits c)

pub overflow_add-result : goal.overflow_add-result
overflow_add-result c = omega (arith, last_fits c)

pub returns-then-b-lt128 : goal.returns-then-b-lt128
returns-then-b-lt128 c = let b = byte_is c in
    rw b (left_last _ _ _ _ c.loop-i.invariant.2 (search rules) (there c) (rw b at c.if-b-lt128.true) (rw b at (overflow_add-result c).fits))

-- a group that others follow
module _ (c : Else-b-lt128) where
  is_there : c.loop-i.i < length c.args.s.now
  is_there = search rules

  is_byte : c.in_ok-b.field-0.now ≡ get_or c.args.s.now c.loop-i.i 0
  is_byte = search rules

  more_fits : Grown c.loop-i.value (c.in_ok-b.field-0.now - 128) c.loop-i.unit
  more_fits =
      let l = c.loop-i in
      let b = c.type_inv.s l.i in
      let e = is_byte in
      group_fits l.i (omega arith) l.invariant.0 l.invariant.1 (search rules)

pub overflow_mul-value : goal.overflow_mul-value
overflow_mul-value c = omega (arith, more_fits c)

pub overflow_add-value : goal.overflow_add-value
overflow_add-value c = omega (arith, more_fits c)

pub overflow_mul-unit : goal.overflow_mul-unit
overflow_mul-unit c = omega (arith, more_fits c)

pub loop-i-preserved : goal.loop-i-preserved
loop-i-preserved c = let l = c.loop-i in
    let b = is_byte c in (
      (more_fits c).under,
      ap (λ (n : ℕ). n * 128) l.invariant.1 ∙ rw (add-one, pow-suc),
      rw b (left_more _ _ _ _ l.invariant.2 (search rules) (is_there c) (rw b at c.if-b-lt128.false)),
    )

pub returns-in_err-last : goal.returns-in_err-last
returns-in_err-last c = c.from_residual-in_err-last.ensures ∙ left_none _ _ _ _ c.loop-i.invariant.2 (search rules)

-- after the loop i is 9, and the tenth group counts 2 ^ 63
module _ (c : In_ok-last) where
  nine : c.loop-i.i ≡ 9
  nine = search rules

  unit_nine : c.loop-i.unit ≡ 2 ^ 63
  unit_nine = c.loop-i.invariant.1 ∙ ap (λ (n : ℕ). 128 ^ n) nine

  left_nine : Left c.args.s.now c.loop-i.value c.loop-i.unit 9
  left_nine = subst (λ (n : ℕ). Left c.args.s.now c.loop-i.value c.loop-i.unit n) nine c.loop-i.invariant.2

  tenth : 9 < length c.args.s.now
  tenth = search rules

  tenth_is : c.in_ok-last.field-0.now ≡ get_or c.args.s.now 9 0
  tenth_is = search rules

last_small : (b u : ℕ) → b < 2 → b * u ≤ 1 * u
last_small b u h = mul-le-mul_right u (omega arith)

pub overflow_mul-result-then-last-lt2 : goal.overflow_mul-result-then-last-lt2
overflow_mul-result-then-last-lt2 c = omega (arith, unit_nine (goal.at.overflow_mul-result-then-last-lt2 c).In_ok-last, last_small c.in_ok-last.field-0.now c.loop-i.unit c.if-last-lt2.true)

pub overflow_add-result-then-last-lt2 : goal.overflow_add-result-then-last-lt2
overflow_add-result-then-last-lt2 c = omega (arith, unit_nine (goal.at.overflow_add-result-then-last-lt2 c).In_ok-last, last_small c.in_ok-last.field-0.now c.loop-i.unit c.if-last-lt2.true)

pub returns-then-last-lt2 : goal.returns-then-last-lt2
returns-then-last-lt2 c = let at = (goal.at.returns-then-last-lt2 c).In_ok-last in
    let b = tenth_is at in
    rw b (left_last _ _ _ 9 (left_nine at) (search rules) (tenth at) (omega arith) (rw b at (overflow_add-result-then-last-lt2 c).fits))

pub returns-else-last-lt2 : goal.returns-else-last-lt2
returns-else-last-lt2 c = let at = (goal.at.returns-else-last-lt2 c).In_ok-last in
    let e = tenth_is at in
    let b : ℕ = get_or c.args.s.now 9 0 in
    split b 128
    (λ h. left_over _ _ _ 9 (left_nine at) (search rules) (tenth at) h (omega (arith, unit_nine at, mul-le-mul_right c.loop-i.unit (rw e at c.if-last-lt2.false))))
    (λ h. left_ten _ _ _ (left_more _ _ _ 9 (left_nine at) (search rules) (tenth at) h))

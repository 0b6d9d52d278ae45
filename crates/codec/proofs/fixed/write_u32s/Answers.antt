-- `codec::fixed::write_u32s` meets its contract. The invariant: to store the bytes of what is left at its place is to store all of them.
use mathlib.Core.Path.{◌≡◌, refl, sym, ap, ap₂, ◌∙◌}
use mathlib.Core.List.{List}
use Prim.Native.Nat.{ℕ, ◌+◌, ◌*◌, ◌≤◌, ◌<◌}
use native.Mathlib.Numerals.{add-one}
use native.Mathlib.Omega.{arith}
use borrow.Author.Rules.{rules}
use lib.ListN.{length, get_or, drop, drop_of_length-le}
use lib.Seq.{sets, drop-cons}
use Rattle.codec.specs.Bytes.{bytes_of, fours}
use Rattle.codec.specs.Put.{put}
use Rattle.codec.proofs.BytesLaws.{bytes_length, fours_length}
use Rattle.codec.proofs.PutLaws.{wrote_full, wrote_sets, wrote_next, wrote_never, put_sets, put_length, sets_append}
use Rattle.codec.proofs.fixed.write_u32s.Goals as goal

step : (d xs : List ℕ) (at i : ℕ) → i < length xs → at + 4 * length xs ≤ length d
    → sets (put d (at + 4 * i) (bytes_of 4 (get_or xs i 0))) (at + 4 * (i + 1)) (fours (drop (i + 1) xs)) ≡ sets d (at + 4 * i) (fours (drop i xs))
unfolding fours
step d xs at i h l =
    let b = bytes_of 4 (get_or xs i 0) in
    let n : length b ≡ 4 = bytes_length 4 (get_or xs i 0) in
    let e : at + 4 * (i + 1) ≡ at + 4 * i + length b = omega arith in
    rw (put_sets d (at + 4 * i) b (omega arith), e, add-one, sets_append d (at + 4 * i) b, drop-cons xs i 0 h)

stop : (d xs : List ℕ) (at i : ℕ) → length xs ≤ i → sets d at (fours (drop i xs)) ≡ d
unfolding fours
stop d xs at i h = rw (drop_of_length-le xs h)

pub returns-then-out-at : goal.returns-then-out-at
returns-then-out-at c = wrote_full _ _ _ (omega arith)

pub returns-then-out-at-2 : goal.returns-then-out-at-2
returns-then-out-at-2 c = wrote_full _ _ _ (omega (arith, fours_length c.args.xs.now))

pub loop-x-init : goal.loop-x-init
loop-x-init c = (omega arith, refl, refl)

pub returns-in_err-end : goal.returns-in_err-end
returns-in_err-end c = absurd (wrote_never _ _ _ _ _ (omega (arith, bytes_length 4 (get_or c.args.xs.now c.loop-x.x-index 0))) c.write.ensures c.in_err-end.was)

pub loop-x-preserved : goal.loop-x-preserved
loop-x-preserved c = let l = c.loop-x in
    let a = c.args in
    let w = c.write.ensures.left in
    let xs = a.xs.now in
    let b = bytes_length 4 (get_or xs l.x-index 0) in
    let n : c.in_ok-end.end ≡ l.end + length (bytes_of 4 (get_or xs l.x-index 0)) = wrote_next _ _ _ _ _ _ (omega arith) c.write.ensures c.in_ok-end.was in
    let i = l.invariant.0 in
    (omega arith, ap₂ (λ (d : List ℕ) (e : ℕ). sets d e (fours (drop (l.x-index + 1) xs))) w (omega arith) ∙ ap (λ (e : ℕ). sets (put l.out e (bytes_of 4 (get_or xs l.x-index 0))) (a.at + 4 * (l.x-index + 1)) (fours (drop (l.x-index + 1) xs))) i ∙ step l.out xs a.at l.x-index (search rules) (omega arith) ∙ ap (λ (e : ℕ). sets l.out e (fours (drop l.x-index xs))) (sym i) ∙ l.invariant.1, ap length w ∙ put_length l.out _ _ ∙ l.invariant.2)

pub returns : goal.returns
returns c = let l = c.loop-x in
    let a = c.args in
    let n = fours_length a.xs.now in
    wrote_sets _ _ _ _ _ (omega arith) (omega arith) (sym (stop l.out a.xs.now l.end l.x-index (omega arith)) ∙ l.invariant.1)

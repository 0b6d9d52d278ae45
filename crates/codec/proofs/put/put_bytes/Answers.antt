-- `codec::put::put_bytes` meets its contract. The invariant: to store what is left of src at its place is to store all of src.
use mathlib.Core.Path.{◌≡◌, refl, sym, ◌∙◌}
use mathlib.Core.List.{List}
use Prim.Native.Nat.{ℕ, ◌+◌, ◌≤◌, ◌<◌}
use native.Mathlib.Nat.{add-suc, add-zero}
use native.Mathlib.Numerals.{add-one}
use native.Mathlib.Omega.{arith}
use lib.ListN.{length, get_or, set, drop, length-set, drop_of_length-le}
use lib.Seq.{sets, drop-cons}
use Rattle.codec.proofs.PutLaws.{wrote_exit, wrote_sets}
use Rattle.codec.proofs.put.put_bytes.Goals as goal

step : (d s : List ℕ) (at i : ℕ) → i < length s → sets (set d (at + i) (get_or s i 0)) (at + (i + 1)) (drop (i + 1) s) ≡ sets d (at + i) (drop i s)
step d s at i h = rw (add-one, add-suc, drop-cons s i 0 h)

stop : (d s : List ℕ) (at i : ℕ) → length s ≤ i → sets d (at + i) (drop i s) ≡ d
stop d s at i h = rw (drop_of_length-le s h)

pub returns-in_err-end : goal.returns-in_err-end
returns-in_err-end c = wrote_exit c.from_residual.ensures.0 c.in_err-end.ensures

pub loop-i-init : goal.loop-i-init
loop-i-init c = (rw add-zero, refl)

pub loop-i-preserved : goal.loop-i-preserved
loop-i-preserved c = let l = c.loop-i in
    let a = c.args in
    (step l.out a.src.now a.at l.i (omega arith) ∙ l.invariant.0, length-set l.out (a.at + l.i) _ ∙ l.invariant.1)

pub returns : goal.returns
returns c = let l = c.loop-i in
    let a = c.args in
    wrote_sets _ _ _ _ _ c.in_ok-end.ensures.0 c.in_ok-end.ensures.1 (sym (stop l.out a.src.now a.at l.i (omega arith)) ∙ l.invariant.0)

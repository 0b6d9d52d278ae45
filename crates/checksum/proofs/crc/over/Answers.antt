-- `checksum::crc::over` meets its contract. The invariant: the bytes to go, from the state, give the whole.
use Rattle.std.proofs.Common.{◌≡◌, ℕ, ◌+◌, ◌<◌, ◌≤◌, List, length, get_or, drop, sym, refl, ap, ◌∙◌, add-one, drop_of_length-le, drop-cons, rules}
use Rattle.checksum.specs.Checksum.{crc_byte, crc_over}
use Rattle.checksum.proofs.crc.over.Goals as goal

step : (s : List ℕ) (i x : ℕ) → i < length s → crc_over (crc_byte x (get_or s i 0)) (drop (i + 1) s) ≡ crc_over x (drop i s)
unfolding crc_over
step s i x h = rw (add-one, drop-cons s i 0 h)

stop : (s : List ℕ) (i x : ℕ) → length s ≤ i → crc_over x (drop i s) ≡ x
unfolding crc_over
stop s i x h = rw (drop_of_length-le s h)

pub loop-b-init : goal.loop-b-init
loop-b-init c = refl

pub loop-b-preserved : goal.loop-b-preserved
loop-b-preserved c = let l = c.loop-b in
    let s = c.args.s.now in
    ap (λ (y : ℕ). crc_over y (drop (l.b-index + 1) s)) c.byte-x.ensures ∙ step s l.b-index l.x (search rules) ∙ l.invariant

pub returns : goal.returns
returns c = let l = c.loop-b in
    sym (stop c.args.s.now l.b-index l.x (search rules)) ∙ l.invariant

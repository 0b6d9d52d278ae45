-- `keys::cmp::eight` meets its contract: the eight bytes at the place are the number there.
use native.Mathlib.Nat.{add-zero}
use native.Mathlib.Omega.{arith}
use Rattle.keys.proofs.CompareLaws.{big_at}
use Rattle.keys.proofs.cmp.eight.Goals as goal

pub returns : goal.returns
returns c = let a = c.args in
    omega (arith, c.from_be_bytes.ensures, rw (add-zero a.i) at (big_at 8 a.s.now a.i (omega arith)))

-- `filter_block::filter_block::number` meets its contract: the bytes are there.
use native.Mathlib.Nat.{add-zero}
use native.Mathlib.Omega.{arith}
use Rattle.codec.proofs.FixedLaws.{number_is}
use Rattle.filter_block.proofs.filter_block.number.Goals as goal

pub returns : goal.returns
returns c = let a = c.args in
    omega (arith, c.from_le_bytes.ensures, rw (add-zero a.at) at (number_is 4 a.s.now a.at c.requires))

-- `codec::fixed::chunk_at` meets its contract.
use mathlib.Core.Path.{◌≡◌, ap, ◌∙◌}
use native.Mathlib.Omega.{arith}
use Prim.Native.Nat.{◌≤◌}
use lib.ListN.{length, take, drop, length-drop}
use Rattle.codec.specs.Bytes.{part}
use Rattle.codec.proofs.BytesLaws.{part_rest}
use Rattle.codec.proofs.fixed.chunk_at.Goals as goal

pub returns : goal.returns
unfolding part
returns g c = let a = c.args in
    let x = c.in_ok-get.ensures.lookup in
    let rest : c.in_ok-get.field-0.now ≡ drop a.at a.s.now = x.0.2 ∙ part_rest a.s.now a.at in
    let b : a.at ≤ length a.s.now = x.0.0 in
    (omega (arith, c.in_ok-bytes.ensures.cases, ap length rest, length-drop a.at a.s.now), c.in_ok-bytes.ensures.cases.0 ∙ ap (take g.row.N) rest)

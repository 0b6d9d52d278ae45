-- `full_check::check::keys_rise` meets its contract. The loop's invariant: the test of the entries from `at` on, behind the key before, comes to
-- the test of all, and `last` is that key.
use Prim.Native.Nat.{ℕ, ◌+◌}
use mathlib.Core.Path.{◌≡◌, sym, ◌∙◌}
use mathlib.Core.Bool.{Bool, true, false}
use mathlib.Core.List.{List}
use native.Mathlib.Omega.{arith}
use lib.Dec.{eqb}
use Rattle.blocks.specs.Block.{Entry, pairs_of}
use Rattle.blocks.specs.Formed.{Kind, rises}
use Rattle.block_reader.specs.Said.{kind_of}
use Rattle.table.specs.Table.{less_of}
use Rattle.full_check.specs.Steps.{after}
use Rattle.full_check.proofs.KeyLaws.{RisesLeft, after_stops, after_first, after_less, rises_start, rises_end, rises_more, rises_stop}
use Rattle.block_reader.proofs.WalkLaws.{scan_start, scan_bad, scan_end, scan_more, scan_hit}
use Rattle.full_check.proofs.check.keys_rise.Goals.{else-at-gt0-via-then-at-gt0+else-not-comes_before, else-at-gt0-via-else-at-gt0}
use Rattle.full_check.proofs.check.keys_rise.Goals as goal

-- what was said of the two keys, as the code lends them
less_is : (kind : Kind) {r v : Bool} {x y a b k : List ℕ} → r ≡ less_of kind x y → x ≡ a → y ≡ b → b ≡ k → r ≡ v → less_of kind a k ≡ v
less_is kind said e f g is = cc

pub loop-at-init : goal.loop-at-init
loop-at-init c = (rw c.new-key.ensures (scan_start c.args.d.now 0 (RisesLeft (kind_of c.args.kind) 0 _) (omega arith) (rises_start (kind_of c.args.kind))), c.copy_from.ensures)

pub returns-in_default : goal.returns-in_default
returns-in_default c = λ es read. absurd (scan_bad c.loop-at.invariant.0 c.loop-at-test.true c.in_default.ensures.0 es read)

pub returns-then-not-comes_before : goal.returns-then-not-comes_before
returns-then-not-comes_before c =
    let kind = kind_of c.args.kind in
    let l = c.loop-at in
    let t = c.in-Some.ensures in
    scan_hit l.invariant.0 t (λ (es : List Entry). rises (less_of kind) (pairs_of es) ≡ false) (λ es rest left.
    rises_stop kind l.at l.key t.here es rest left
    (after_stops kind l.at l.key t.here.key c.if-at-gt0.true (less_is kind c.comes_before.ensures (c.as_slice.ensures ∙ l.invariant.1) c.as_slice-then-at-gt0.ensures t.key c.if-not-comes_before.true)))

pub loop-at-preserved : goal.loop-at-preserved
loop-at-preserved c =
    let kind = kind_of c.args.kind in
    let l = c.loop-at in
    let read = c.in-Some.read in
    let t = c.in-Some.ensures in
    let next = read.value_at + read.value_len in
    let up : after kind (eqb l.at 0) l.key t.here.key ≡ true = elim c.else-at-gt0.branch [
      | else-at-gt0-via-then-at-gt0+else-not-comes_before w ↦ after_less kind l.at l.key t.here.key (less_is kind w.comes_before.ensures (w.as_slice.ensures ∙ l.invariant.1) w.as_slice-then-at-gt0.ensures t.key w.if-not-comes_before.false)
      | else-at-gt0-via-else-at-gt0 w ↦ after_first kind l.at l.key t.here.key (omega (arith, w.if-at-gt0.false))
    ] in (
      scan_more l.invariant.0 t (RisesLeft kind next c.read.new.self) (λ es rest left.
          rises_more kind l.at l.key t.here es rest left next up t.up t.key),
      c.copy_from-in-loop-at.ensures,
    )

pub returns : goal.returns
returns c = λ es read.
    let l = c.loop-at in
    let u = rises_end (kind_of c.args.kind) l.at l.key es (scan_end l.invariant.0 c.loop-at-test.false es read) in
    (u.0, u.1 ∙ sym l.invariant.1)

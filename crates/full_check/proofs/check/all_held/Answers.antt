-- `full_check::check::all_held` meets its contract. The loop's invariant: the test of the entries from `at` on comes to the test of all.
use mathlib.Core.Path.{◌≡◌, refl, sym, ◌∙◌}
use mathlib.Core.Bool.{Bool, true, false}
use mathlib.Core.List.{List}
use native.Mathlib.Omega.{arith}
use Prim.Native.Nat.{ℕ}
use Rattle.keys.specs.Order.{user_of}
use Rattle.blocks.specs.Block.{Entry, pairs_of}
use Rattle.blocks.specs.Formed.{all}
use Rattle.filters.specs.Filter.{hash}
use Rattle.filters.specs.FilterBlock.{may_match}
use Rattle.full_check.specs.Steps.{lets}
use Rattle.full_check.proofs.KeyLaws.{held_end, held_next}
use Rattle.block_reader.proofs.WalkLaws.{said_of, Same, scan_start, scan_bad, scan_end, scan_more, scan_hit}
use Rattle.full_check.proofs.check.all_held.Goals as goal

-- what is said of some entries
abbrev held : List ℕ → ℕ → List Entry → Bool
held s offset es = all (lets s offset) (pairs_of es)

pub loop-at-init : goal.loop-at-init
loop-at-init c = rw c.new-key.ensures (scan_start c.args.d.now 0 (Same (held c.args.filter.now c.args.offset)) (omega arith) (λ es. refl))

pub returns-in_default : goal.returns-in_default
returns-in_default c = λ es read. absurd (scan_bad c.loop-at.invariant c.loop-at-test.true c.in_default.ensures.0 es read)

pub returns-then-not-may_hold : goal.returns-then-not-may_hold
returns-then-not-may_hold c =
    let s = c.args.filter.now in
    let o = c.args.offset in
    let t = c.in-Some.ensures in
    scan_hit c.loop-at.invariant t (λ (es : List Entry). false ≡ held s o es) (λ es rest same.
    sym (same ∙ held_next s o t.here rest false (said_of (λ (q : List ℕ). may_match s o (hash (user_of q))) (c.as_slice.ensures ∙ t.key) c.may_hold.ensures c.if-not-may_hold.true)))

pub loop-at-preserved : goal.loop-at-preserved
loop-at-preserved c =
    let s = c.args.filter.now in
    let o = c.args.offset in
    let t = c.in-Some.ensures in
    scan_more c.loop-at.invariant t (Same (held s o)) (λ es rest same.
    same ∙ held_next s o t.here rest true (said_of (λ (q : List ℕ). may_match s o (hash (user_of q))) (c.as_slice.ensures ∙ t.key) c.may_hold.ensures c.if-not-may_hold.false))

pub returns : goal.returns
returns c = λ es read. held_end c.args.filter.now c.args.offset ∙ sym (scan_end c.loop-at.invariant c.loop-at-test.false es read)

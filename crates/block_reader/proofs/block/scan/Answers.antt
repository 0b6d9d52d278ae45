-- `block_reader::block::scan` meets its contract. The loop's invariant: the same is said of the entries from `at` on as of all, and the key buffer is as
-- it was.
use mathlib.Core.Path.{◌≡◌, refl, ◌∙◌}
use mathlib.Core.List.{List}
use mathlib.Core.Bool.{Bool}
use mathlib.Core.Option.{some}
use Prim.Native.Nat.{ℕ}
use Rattle.keys.specs.Order.{Point, is_less, point_of, by_point}
use Rattle.keys.proofs.AnswerLaws.{less_told}
use Rattle.blocks.specs.Search.{seek_in}
use Rattle.block_reader.proofs.WalkLaws.{said_of, Same, scan_start, scan_bad, scan_end, scan_more, scan_hit}
use Rattle.block_reader.proofs.ExitLaws.{none_exit}
use Rattle.block_reader.proofs.FoundLaws.{told_bad, told_none, told_taken}
use Rattle.block_reader.proofs.SeekLaws.{seek_here, seek_past, seek_end}
use Rattle.block_reader.proofs.block.scan.Goals as goal
use Rattle.block_reader.proofs.block.scan.Goals.{At-loop-at}

abbrev point : (c : At-loop-at) → Point
point c = record { word = c.args.word.now; edition = c.args.sequence }

-- how a key stands to the point: an entry's is compared as it stands in the buffer
abbrev order : Point → List ℕ → Bool
order p q = is_less (by_point (point_of q) p)

pub loop-at-init : goal.loop-at-init
loop-at-init c = (rw c.new-before.ensures (scan_start c.args.d.now c.args.from (Same (seek_in _)) c.requires (λ es. refl)), refl)

pub returns-in_err-read : goal.returns-in_err-read
returns-in_err-read c =
    rw (none_exit c.read.result c.from_residual.ensures.1 c.in_err-read.ensures.value, c.loop-at.invariant.1)
    (told_bad _ _ _ (seek_in (point (goal.at.returns-in_err-read c).At-loop-at)) _ (scan_bad c.loop-at.invariant.0 c.loop-at-test.true (rw c.in_err-read.ensures.ok_part at c.read.ensures).0))

pub loop-at-preserved : goal.loop-at-preserved
loop-at-preserved c =
    let p = point (goal.at.loop-at-preserved c).At-loop-at in
    let t = rw c.in_ok-read.ensures.ok_part at c.read.ensures in
    let key = c.as_slice.ensures ∙ t.key in
    (scan_more c.loop-at.invariant.0 t (Same (seek_in p)) (λ es rest same. same ∙ seek_past p t.here rest (said_of (order p) key (less_told _ c.is_lt.ensures c.cmp_target.ensures) c.if-not-is_lt.false)), c.loop-at.invariant.1)

pub returns-then-not-is_lt : goal.returns-then-not-is_lt
returns-then-not-is_lt c =
    let p = point (goal.at.returns-then-not-is_lt c).At-loop-at in
    let t = rw c.in_ok-read.ensures.ok_part at c.read.ensures in
    let key = c.as_slice.ensures ∙ t.key in
    told_taken _ _ _ (seek_in p) _ t c.as_slice-then-not-is_lt.ensures
    (scan_hit c.loop-at.invariant.0 t (λ es. seek_in p es ≡ some (some t.here)) (λ es rest same. same ∙ seek_here p t.here rest (said_of (order p) key (less_told _ c.is_lt.ensures c.cmp_target.ensures) c.if-not-is_lt.true)))
    (rw c.loop-at.invariant.1 at c.hand.ensures)

pub returns : goal.returns
returns c = rw c.loop-at.invariant.1 (told_none _ _ _ (seek_in (point (goal.at.returns c).At-loop-at)) _ (λ es read. scan_end c.loop-at.invariant.0 c.loop-at-test.false es read ∙ seek_end (point (goal.at.returns c).At-loop-at)))

-- `block_reader::block::walk` meets its contract. The loop's invariant: the same is said of the entries from `p` on as of all.
use mathlib.Core.Path.{refl, ◌∙◌}
use native.Mathlib.Omega.{arith}
use Rattle.block_reader.specs.Said.{place_in}
use Rattle.blocks.proofs.ReadLaws.{entry_start}
use Rattle.block_reader.proofs.WalkLaws.{Same, scan_start, scan_bad, scan_more, scan_told}
use Rattle.block_reader.proofs.ExitLaws.{none_exit}
use Rattle.block_reader.proofs.FoundLaws.{told_bad, told_no_place}
use Rattle.block_reader.proofs.SeekLaws.{told_here, place_past, no_place}
use Rattle.block_reader.proofs.block.walk.Goals as goal

pub loop-p-init : goal.loop-p-init
loop-p-init c = rw c.new-before.ensures (scan_start c.args.d.now c.args.from (Same (place_in c.args.which c.args.at)) c.requires.0 (λ es. refl))

pub returns-in_err-read : goal.returns-in_err-read
returns-in_err-read c =
    rw (none_exit c.read.result c.from_residual.ensures.1 c.in_err-read.ensures.value)
    (told_bad _ _ _ (place_in c.args.which c.args.at) _ (scan_bad c.loop-p.invariant (omega (arith, c.loop-p-test.true, c.requires.1)) (rw c.in_err-read.ensures.ok_part at c.read.ensures).0))

pub loop-p-preserved : goal.loop-p-preserved
loop-p-preserved c =
    let t = rw c.in_ok-read.ensures.ok_part at c.read.ensures in
    scan_more c.loop-p.invariant t (Same (place_in c.args.which c.args.at)) (λ es rest same. same ∙ place_past c.args.which c.args.at t.here rest (λ e. omega (arith, c.loop-p-test.true, entry_start _ _ _ t.reads)))

pub returns-then-p-at : goal.returns-then-p-at
returns-then-p-at c = told_no_place _ _ _ (place_in c.args.which c.args.at) _ (λ es read.
    let r = c.loop-p.invariant.left es read in
    r.same ∙ no_place _ _ _ c.args.which c.args.at c.loop-p.invariant.within (omega (arith, c.loop-p-test.false, c.if-p-at.true)) r.rest r.reads)

pub returns-in-Here : goal.returns-in-Here
returns-in-Here c = scan_told c.loop-p.invariant (rw (c.if-p-at.false, c.in-Here.is) (told_here _ _ _ c.requires.1 c.entry_here.ensures))

pub returns-in-After : goal.returns-in-After
returns-in-After c = scan_told c.loop-p.invariant (rw (c.if-p-at.false, c.in-After.is) c.entry_after.ensures)

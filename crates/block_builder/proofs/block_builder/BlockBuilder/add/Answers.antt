-- `block_builder::block_builder::BlockBuilder::add` meets its contract.
use mathlib.Core.Path.{◌≡◌, refl, sym, ap, ◌∙◌}
use native.Mathlib.Omega.{arith}
use borrow.Author.Tests.{eq-eqb, ne_eqb}
use lib.Dec.{eqb}
use mathlib.Core.List.{[], ◌∷◌}
use mathlib.Core.Bool.{cond}
use lib.ListN.{length, set}
use Rattle.std.specs.Prelude.{Ok}
use Rattle.codec.specs.Put.{put}
use Rattle.codec.proofs.PutLaws.{wrote_never}
use Rattle.block_builder.specs.Builder.{count_in}
use Rattle.block_builder.specs.Plan.{plan_of}
use Rattle.block_builder.proofs.BuilderCode.{no_bytes, no_restarts, no_mark, mark_on, mark_off, added_none, added_full, share_in, room_out, restart_in, added_one}
use Rattle.block_builder.proofs.block_builder.BlockBuilder.add.Goals as goal
use Rattle.block_builder.proofs.block_builder.BlockBuilder.add.Goals.{In_ok-plan, then-self, else-self}

is_plan : (c : In_ok-plan) → plan_of c.args.self.now.interval (count_in c.args.self.now) c.args.key.now (length c.args.value.now) ≡ Ok c.in_ok-plan.plan
is_plan c = sym (rw (c.counts.ensures.interval, c.counts.ensures.counts) at c.plan.ensures) ∙ c.in_ok-plan.was

pub returns-in_err-plan : goal.returns-in_err-plan
returns-in_err-plan c = added_none _ _ _ _ _ _ (sym (rw (c.counts.ensures.interval, c.counts.ensures.counts) at c.plan.ensures) ∙ c.in_err-plan.was) c.from_residual.ensures.0

pub returns-in_err-end_of : goal.returns-in_err-end_of
returns-in_err-end_of c = added_full _ _ _ _ _ _ (is_plan (goal.at.returns-in_err-end_of c).In_ok-plan) c.from_residual-in_err-end_of.ensures.0 (no_bytes _ _ _ _ _ _ c.in_err-end_of.ensures)

pub returns-then-restarts-plan : goal.returns-then-restarts-plan
returns-then-restarts-plan c = added_full _ _ _ _ _ _ (is_plan (goal.at.returns-then-restarts-plan c).In_ok-plan) refl (no_restarts _ _ _ _ _ _ c.if-restarts-plan.true)

pub returns-in_default : goal.returns-in_default
returns-in_default c = added_full _ _ _ _ _ _ (is_plan (goal.at.returns-in_default c).In_ok-plan) refl (no_mark _ _ _ _ _ _ (omega (arith, c.in_default.ensures)))

pub put_entry-requires : goal.put_entry-requires
put_entry-requires c = let a = c.args in
    let e = is_plan (goal.at.put_entry-requires c).In_ok-plan in
    (share_in a.self.now a.at a.out.now a.restarts.now a.key.now a.value.now e, room_out a.self.now a.at a.out.now a.restarts.now a.key.now a.value.now e c.in_ok-end_of.ensures.0)

pub returns-in_err-put_entry : goal.returns-in_err-put_entry
returns-in_err-put_entry c = let a = c.args in
    let e = is_plan (goal.at.returns-in_err-put_entry c).In_ok-plan in
    absurd (wrote_never _ _ _ _ _ (room_out a.self.now a.at a.out.now a.restarts.now a.key.now a.value.now e c.in_ok-end_of.ensures.0) c.put_entry.ensures c.in_err-put_entry.was)

pub offset_bounds-restarts-self : goal.offset_bounds-restarts-self
offset_bounds-restarts-self c = let a = c.args in
    let h = restart_in a.self.now a.at a.out.now a.restarts.now a.key.now a.value.now (is_plan (goal.at.offset_bounds-restarts-self c).In_ok-plan) c.if-self.true c.if-restarts-plan.false in
    omega arith

pub bounds-restarts-self : goal.bounds-restarts-self
bounds-restarts-self c = let a = c.args in
    restart_in a.self.now a.at a.out.now a.restarts.now a.key.now a.value.now (is_plan (goal.at.bounds-restarts-self c).In_ok-plan) c.if-self.true c.if-restarts-plan.false

pub returns : goal.returns
returns c = let a = c.args in
    let e = is_plan (goal.at.returns c).In_ok-plan in
    let b = a.self.now in
    let m : c.if-self.restarts ≡ put a.restarts.now b.restarts (cond (eqb b.since b.interval) (b.bytes ∷ []) []) =
    elim c.if-self.branch [
      | then-self w ↦ w.restarts-is
          ∙ ap (set a.restarts.now b.restarts) c.in-Ok.ensures.1
          ∙ mark_on a.restarts.now b.restarts b.bytes (eqb b.since b.interval) (eq-eqb b.since b.interval w.if-self.true)
          (restart_in b a.at a.out.now a.restarts.now a.key.now a.value.now e w.if-self.true c.if-restarts-plan.false)
      | else-self w ↦ w.restarts-is ∙ mark_off a.restarts.now b.restarts b.bytes (eqb b.since b.interval) (ne_eqb b.since b.interval w.if-self.false)
    ]
    in
    added_one _ _ _ _ _ _ e c.in_ok-end_of.ensures.0 c.if-restarts-plan.false c.in-Ok.ensures.0 c.put_entry.ensures m c.enter.ensures

-- `builder::table_builder::has_room` meets its contract.
use mathlib.Core.Path.{sym, ◌∙◌}
use Rattle.builder.proofs.DecideLaws.{room_insane, room_large, room_size, sane_small, sane_is}
use Rattle.builder.proofs.table_builder.has_room.Goals as goal

pub returns-then-not-is_sane : goal.returns-then-not-is_sane
returns-then-not-is_sane c = let a = c.args in λ w. room_insane a.s.now a.l c.is_sane.ensures (c.if-not-is_sane.true)

pub returns-then-not-is_small : goal.returns-then-not-is_small
returns-then-not-is_small c = let a = c.args in λ w. room_large a.s.now a.l c.is_sane.ensures (c.if-not-is_sane.false) c.is_small.ensures (c.if-not-is_small.true)

pub invariant_of-finished_size : goal.invariant_of-finished_size
invariant_of-finished_size c = let a = c.args in
    let e = c.is_sane.ensures in
    let f = c.if-not-is_sane.false in
    record { small = sane_small a.s.now a.l e f c.is_small.ensures (c.if-not-is_small.false); short = (sane_is a.s.now a.l (sym e ∙ f)).len }

pub returns : goal.returns
returns c = let a = c.args in
    λ w. room_size a.s.now a.l c.is_sane.ensures (c.if-not-is_sane.false) c.is_small.ensures (c.if-not-is_small.false) (c.finished_size.ensures w) c.room.ensures

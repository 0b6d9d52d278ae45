-- `builder::table_builder::decide` meets its contract.
use mathlib.Core.Path.{sym, ◌∙◌}
use Rattle.builder.proofs.SizeLaws.{small_is}
use Rattle.builder.proofs.DecideLaws.{sane_is, mid_roomy, decided_large, decided_low, decided_full, decided_ok}
use Rattle.builder.proofs.table_builder.decide.Goals as goal

pub returns-then-not-is_small : goal.returns-then-not-is_small
returns-then-not-is_small c = let a = c.args in decided_large a.s.now a.l a.key.now a.value_len c.is_small.ensures (c.if-not-is_small.true)

pub returns-then-not-is_above : goal.returns-then-not-is_above
returns-then-not-is_above c = let a = c.args in decided_low a.s.now a.l a.key.now a.value_len c.is_small.ensures (c.if-not-is_small.false) c.is_above.ensures (c.if-not-is_above.true)

pub invariant_of-before : goal.invariant_of-before
invariant_of-before c = let x = sane_is c.args.s.now c.args.l c.requires.0.sound in
    record { small = small_is c.args.s.now x.options (sym c.is_small.ensures ∙ c.if-not-is_small.false); short = x.len }

pub enter-requires : goal.enter-requires
enter-requires c = let x = sane_is c.args.s.now c.args.l c.requires.0.sound in
    mid_roomy c.args.s.now c.args.key.now c.args.value_len (small_is c.args.s.now x.options (sym c.is_small.ensures ∙ c.if-not-is_small.false)) x.len c.requires.0.key c.requires.0.value c.cut_before.ensures

pub returns-then-not-has_room : goal.returns-then-not-has_room
returns-then-not-has_room c = let a = c.args in
    decided_full a.s.now a.l a.key.now a.value_len c.is_small.ensures (c.if-not-is_small.false) c.is_above.ensures (c.if-not-is_above.false) c.cut_before.ensures c.enter.ensures c.has_room.ensures (c.if-not-has_room.true)

pub returns : goal.returns
returns c = let b = c.args in
    decided_ok b.s.now b.l b.key.now b.value_len c.is_small.ensures (c.if-not-is_small.false) c.is_above.ensures (c.if-not-is_above.false) c.cut_before.ensures c.enter.ensures c.has_room.ensures c.is_cut-cut.ensures (c.if-not-has_room.false)

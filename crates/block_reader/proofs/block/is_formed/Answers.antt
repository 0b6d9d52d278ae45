-- `block_reader::block::is_formed` meets its contract.
use mathlib.Core.Path.{sym, ap, ◌∙◌}
use native.Mathlib.Omega.{arith}
use Rattle.block_reader.specs.Said.{kind_of}
use Rattle.blocks.specs.Formed.{is_formed}
use Rattle.block_reader.proofs.FilledLaws.{no_layout, formed_first, formed_empty, formed_filled}
use Rattle.block_reader.proofs.block.is_formed.Goals as goal

pub returns-in_default : goal.returns-in_default
returns-in_default c = no_layout _ _ c.in_default.ensures

pub returns-then-restart-ne0 : goal.returns-then-restart-ne0
returns-then-restart-ne0 c =
    let b = c.in-Some.block in
    formed_first _ _ _ _ b.laid (λ e. c.if-restart-ne0.true (c.restart.ensures ∙ e)) ∙ ap (is_formed (kind_of c.args.kind)) c.in-Some.ensures

pub returns-then-block-eq0 : goal.returns-then-block-eq0
returns-then-block-eq0 c =
    let b = c.in-Some.block in
    c.empty_formed.ensures ∙ sym (formed_empty _ _ _ _ b.laid (sym c.restart.ensures ∙ c.if-restart-ne0.false) c.if-block-eq0.true) ∙ ap (is_formed (kind_of c.args.kind)) c.in-Some.ensures

pub returns : goal.returns
returns c =
    let b = c.in-Some.block in
    c.filled.ensures ∙ formed_filled _ _ _ _ b.laid (sym c.restart.ensures ∙ c.if-restart-ne0.false) (omega (arith, c.if-block-eq0.false)) ∙ ap (is_formed (kind_of c.args.kind)) c.in-Some.ensures

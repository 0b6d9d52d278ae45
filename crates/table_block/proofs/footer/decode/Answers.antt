-- `table_block::footer::decode` meets its contract.
use mathlib.Core.Path.{refl, sym, ap, ◌∙◌}
use Rattle.table_block.specs.Answers.{footer_answer}
use Rattle.table.specs.Table.{footer_handles}
use Rattle.table_block.proofs.FooterLaws.{too_short, too_long, no_magic, by_handles, part_is}
use Rattle.table_block.proofs.footer.decode.Goals as goal
use Rattle.table_block.proofs.footer.decode.Goals.{then-n-lt48-via-then-n-lt48, then-n-lt48-via-else-n-lt48+then-n-gt-TABLE_LIMIT, then-n-lt48-via-else-n-lt48+else-n-gt-TABLE_LIMIT+then-not-ends_in_magic}

pub returns-then-n-lt48 : goal.returns-then-n-lt48
returns-then-n-lt48 c =
    elim c.then-n-lt48.branch [
      | then-n-lt48-via-then-n-lt48 w ↦ too_short _ w.if-n-lt48.true
      | then-n-lt48-via-else-n-lt48+then-n-gt-TABLE_LIMIT w ↦ too_long _ w.if-n-lt48.false w.if-n-gt-TABLE_LIMIT.true
      | then-n-lt48-via-else-n-lt48+else-n-gt-TABLE_LIMIT+then-not-ends_in_magic w ↦
          no_magic _ w.if-n-lt48.false w.if-n-gt-TABLE_LIMIT.false (sym w.ends_in_magic.ensures ∙ w.if-not-ends_in_magic.true)
    ]

pub returns : goal.returns
returns c = let t = c.args.table.now in
    let l = c.if-n-lt48.false in
    c.handles.ensures t refl
    ∙ ap footer_answer (ap (footer_handles t) (part_is t l) ∙ sym (by_handles t l c.if-n-gt-TABLE_LIMIT.false (sym c.ends_in_magic.ensures ∙ c.if-not-ends_in_magic.false)))

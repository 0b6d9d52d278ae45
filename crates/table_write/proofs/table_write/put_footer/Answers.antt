-- `table_write::table_write::put_footer` meets its contract.
use mathlib.Core.Path.{ap, ◌∙◌}
use Rattle.codec.specs.Put.{put}
use Rattle.table.specs.Table.{magic}
use Rattle.table_write.proofs.PartLaws.{foot_next, footer_is}
use Rattle.table_write.proofs.table_write.put_footer.Goals as goal

pub returns : goal.returns
unfolding magic
returns c = let a = c.args in
    let n = foot_next a.metaindex c.encode_to.ensures c.unwrap_or-n.ensures in
    c.put_bytes-2.ensures.left
    ∙ ap (put a.out.now a.at) (footer_is a.metaindex a.index c.encode_to.ensures.left n c.encode_to-2.ensures.left c.put_bytes.ensures.left)

-- `table_write::table_write::put_end` meets its contract.
use mathlib.Core.Path.{refl}
use Rattle.table_write.proofs.EndLaws.{end_put}
use Rattle.table_write.proofs.table_write.put_end.Goals as goal

pub returns : goal.returns
returns c = let a = c.args in
    end_put a.interval _ a.at a.indexed.now a.filters.now a.offsets.now a.index.now a.restarts.now a.out.now _ _ _ c.requires refl c.put_filter.ensures c.meta_size.ensures.0 c.put_meta.ensures c.put_index.ensures c.size_estimate.ensures c.put_footer.ensures

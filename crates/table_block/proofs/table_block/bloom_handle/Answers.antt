-- `table_block::table_block::bloom_handle` meets its contract.
use mathlib.Core.Path.{sym, ◌∙◌}
use native.Mathlib.Omega.{arith}
use lib.Seq.{length-take-le}
use Rattle.block_reader.specs.Steps.{Laid}
use Rattle.block_reader.proofs.LayoutLaws.{laid}
use Rattle.block_reader.proofs.SeekLaws.{read_whole}
use Rattle.table_block.proofs.BloomLaws.{bloom_bad}
use Rattle.table_block.proofs.table_block.bloom_handle.Goals as goal
use Rattle.table_block.proofs.table_block.bloom_handle.Goals.{In_ok-rows}

lay : (c : In_ok-rows) → Laid c.args.metaindex.now c.in_ok-rows.rows.end c.in_ok-rows.rows.count
lay c = laid _ (sym c.layout.ensures ∙ c.in_ok-rows.was)

pub returns-in_err-rows : goal.returns-in_err-rows
returns-in_err-rows c = bloom_bad _ _ (sym c.layout.ensures ∙ c.in_err-rows.was)

pub slice_bounds-bloom_in-end : goal.slice_bounds-bloom_in-end
slice_bounds-bloom_in-end c = sym (length-take-le c.in_ok-rows.rows.end c.args.metaindex.now (omega (arith, (lay c).fits)))

pub returns : goal.returns
returns c = let l = lay (goal.at.returns c).In_ok-rows in record { answer = λ es read. c.bloom_in.ensures es (read_whole _ l read) }

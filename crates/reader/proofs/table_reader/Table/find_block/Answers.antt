-- `reader::table_reader::Table::find_block` meets its contract.
use native.Mathlib.Omega.{arith}
use Rattle.reader.proofs.HitLaws.{picks_asked, said_inside, block_fits, hit_says}
use Rattle.reader.proofs.table_reader.Table.find_block.Goals as goal

pub hit-requires : goal.hit-requires
hit-requires c = said_inside _ c.find_in-found.ensures (block_fits _ _ _ c.part_of-bytes.ensures c.requires (omega (arith, c.well_formed)))

pub returns : goal.returns
returns c = hit_says _ _ _ (picks_asked c.args.ask) c.requires c.part_of-bytes.ensures c.find_in-found.ensures (omega arith) (omega arith) c.hit.ensures

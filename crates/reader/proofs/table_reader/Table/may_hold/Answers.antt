-- `reader::table_reader::Table::may_hold` meets its contract.
use mathlib.Core.Path.{sym, ◌∙◌}
use Rattle.reader.proofs.CallLaws.{named}
use Rattle.reader.proofs.LookLaws.{held_none, held_far, held_is}
use Rattle.reader.proofs.table_reader.Table.may_hold.Goals as goal

pub returns-in_default : goal.returns-in_default
returns-in_default c = held_none _ (named c.args.self.now.ends) _ _ c.part_of-metaindex.ensures c.bloom_handle.ensures c.in_default.is

pub returns-then-not-placed : goal.returns-then-not-placed
returns-then-not-placed c = held_far _ (named c.args.self.now.ends) _ _ c.part_of-metaindex.ensures c.bloom_handle.ensures c.in-Some.is (sym c.placed.ensures ∙ c.if-not-placed.true)

pub returns : goal.returns
returns c = held_is _ (named c.args.self.now.ends) _ _ c.part_of-metaindex.ensures c.bloom_handle.ensures c.in-Some.is _ c.part_of-filters.ensures c.bloom_hash-hash.ensures c.may_match.ensures

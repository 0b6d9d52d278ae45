-- `full_check::check::comes_before` meets its contract.
use mathlib.Core.Logic.{inl, inr}
use Rattle.keys.specs.Order.{bytes_below}
use Rattle.keys.proofs.AnswerLaws.{less_told}
use Rattle.block_reader.specs.Said.{kind_of}
use Rattle.table.specs.Table.{less_of}
use Rattle.full_check.proofs.check.comes_before.Goals as goal

pub returns-in-Data : goal.returns-in-Data
unfolding kind_of less_of
returns-in-Data c = elim c.in-Data.is [ inl e ↦ rw e c.key_below.ensures | inr e ↦ rw e c.key_below.ensures ]

pub returns-in-Metaindex : goal.returns-in-Metaindex
unfolding kind_of less_of bytes_below
returns-in-Metaindex c = rw c.in-Metaindex.is (less_told _ c.is_lt.ensures c.cmp.ensures)

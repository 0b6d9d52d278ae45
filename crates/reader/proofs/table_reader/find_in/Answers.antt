-- `reader::table_reader::find_in` meets its contract.
use Rattle.reader.proofs.HitLaws.{said_in_order}
use Rattle.reader.proofs.table_reader.find_in.Goals as goal

pub returns-in-First : goal.returns-in-First
returns-in-First c = rw c.in-First.is (said_in_order c.first.ensures)

pub returns-in-Place : goal.returns-in-Place
returns-in-Place c = rw c.in-Place.is (said_in_order c.by_place.ensures)

pub returns-in-Target : goal.returns-in-Target
returns-in-Target c = rw c.in-Target.is c.seek.ensures

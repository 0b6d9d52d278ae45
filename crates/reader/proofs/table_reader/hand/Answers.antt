-- `reader::table_reader::hand` meets its contract.
use mathlib.Core.Path.{◌∙◌, ap}
use Rattle.std.specs.Prelude.{Ok}
use Rattle.reader.proofs.CallLaws.{hand_entry, hand_none, hand_refused}
use Rattle.reader.proofs.table_reader.hand.Goals as goal

pub returns-in_err-entry-clause-handed : goal.returns-in_err-entry-clause-handed
returns-in_err-entry-clause-handed c = hand_refused _ _ c.in_err-entry.was

pub returns-in_default-clause-handed : goal.returns-in_default-clause-handed
returns-in_default-clause-handed c = hand_none _ _ (c.in_ok-entry.was ∙ ap Ok c.in_default.is)

pub returns-clause-handed : goal.returns-clause-handed
returns-clause-handed c = hand_entry _ _ (c.in_ok-entry.was ∙ ap Ok c.in-Some.is) c.requires.1 c.requires.0 c.put_bytes.ensures.left

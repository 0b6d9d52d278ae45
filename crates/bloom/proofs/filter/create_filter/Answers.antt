-- `bloom::filter::create_filter` meets its contract.
use Rattle.std.proofs.Common.{◌≡◌, length, [], sym, ◌∙◌}
use borrow.Author.Tests.{eqb-true, eqb-false}
use Rattle.bloom.specs.Choice.{choice_of}
use Rattle.filters.specs.FilterBlock.{filter_for}
use Rattle.bloom.proofs.FilterCode.{no_filter_none, no_filter, filter_chosen}
use Rattle.bloom.proofs.filter.create_filter.Goals as goal
use Rattle.bloom.proofs.filter.create_filter.Goals.{in_default-via-in-Some+else-not-is_empty, in_default-via-in_default}

pub returns-in-Some : goal.returns-in-Some
returns-in-Some c = let a = c.args in
    rw (filter_chosen a.choice a.hashes.now c.in-Some.is (eqb-false (length a.hashes.now) 0 (sym c.is_empty.ensures ∙ c.if-not-is_empty.true))) c.write_filter.ensures

pub returns-in_default : goal.returns-in_default
returns-in_default c = let a = c.args in
    let e : filter_for (choice_of a.choice) a.hashes.now ≡ [] =
    elim c.in_default.branch [
      | in_default-via-in-Some+else-not-is_empty w ↦ no_filter (choice_of a.choice) a.hashes.now (eqb-true (length a.hashes.now) 0 (sym w.is_empty.ensures ∙ w.if-not-is_empty.false))
      | in_default-via-in_default w ↦ no_filter_none a.choice a.hashes.now w.in_default.is
    ] in
    rw e c.put_bytes.ensures

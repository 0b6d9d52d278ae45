-- `block_reader::block::LastKey::read` meets its contract.
use mathlib.Core.Path.{refl, sym, ap, ◌∙◌}
use Prim.Native.Nat.{◌+◌}
use native.Mathlib.Omega.{arith}
use lib.ListN.{take}
use Rattle.block_reader.specs.Steps.{Taken}
use Rattle.block_reader.proofs.EntryLaws.{none_past}
use Rattle.block_reader.proofs.RestLaws.{rest_bad, rest_left, rest_taken}
use Rattle.block_reader.proofs.block.LastKey.read.Goals as goal
use Rattle.block_reader.proofs.block.LastKey.read.Goals.{In_ok-read}

entry : (c : In_ok-read) → Taken c.args.d.now c.args.at c.args.self.now (record c.in_ok-read.read { value_at = c.args.at + c.in_ok-read.read.value_at }) (take c.in_ok-read.read.key_len c.read_entry.new.key)
entry c =
    let s = c.self.inside in
    let r = c.read_entry.ensures in
    rw (sym c.self.view_is) (rest_taken c.args.d.now c.args.at s.bytes s.len c.if-d-at.false (omega arith) (sym r.said ∙ c.in_ok-read.was) r.left)

pub returns-then-d-at : goal.returns-then-d-at
returns-then-d-at c = (none_past _ _ _ c.if-d-at.true, refl)

pub returns-in_err-read : goal.returns-in_err-read
returns-in_err-read c =
    let s = c.self.inside in
    let r = c.read_entry.ensures in
    let none = sym r.said ∙ c.in_err-read.was in
    rw (c.from_residual.ensures, ← c.self.view_is) (rest_bad c.args.d.now c.args.at s.bytes s.len (omega arith) none, ap (take s.len) (rest_left c.args.d.now c.args.at s.bytes s.len none r.left))

pub invariant_of-self-2 : goal.invariant_of-self-2
invariant_of-self-2 c = (entry (goal.at.invariant_of-self-2 c).In_ok-read).room

pub overflow_add-result : goal.overflow_add-result
overflow_add-result c = omega (arith, (entry (goal.at.overflow_add-result c).In_ok-read).within)

pub returns : goal.returns
returns c = entry (goal.at.returns c).In_ok-read

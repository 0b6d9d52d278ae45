-- `block_reader::block::read_entry` meets its contract: the key's tail is written behind what it shares, and only where it fits.
use Prim.Native.Nat.{min}
use mathlib.Core.Path.{◌≡◌, sym, ap, ◌∙◌}
use native.Mathlib.Omega.{arith}
use lib.ListN.{length, take}
use Rattle.std.specs.Prelude.{Some}
use Rattle.block_reader.specs.Steps.{head_after, head_answer}
use Rattle.block_reader.proofs.EntryLaws.{Made, entry_here, read_none, read_full, read_whole}
use Rattle.block_reader.proofs.block.read_entry.Goals as goal
use Rattle.block_reader.proofs.block.read_entry.Goals.{In_ok-head}

-- the numbers
told : (c : In_ok-head) → head_answer (head_after (min c.args.key_len (length c.args.key.now)) c.args.rest.now) ≡ Some c.in_ok-head.head
told c = ap (λ n. head_answer (head_after n c.args.rest.now)) (sym c.min.ensures) ∙ sym c.head_after.ensures ∙ c.in_ok-head.was

-- what it is made of
here : (c : In_ok-head) → Made 0 (take c.args.key_len c.args.key.now) c.args.rest.now c.in_ok-head.head
here c = entry_here c.args.key.now c.args.rest.now _ (told c)

pub returns-in_err-head : goal.returns-in_err-head
returns-in_err-head c = let a = c.args in
    let r = read_none a.key.now a.rest.now a.key_len
    (ap (λ n. head_answer (head_after n a.rest.now)) (sym c.min.ensures) ∙ sym c.head_after.ensures ∙ c.in_err-head.was) in
    record { said = c.from_residual.ensures ∙ r.said; left = r.left }

pub overflow_add-end : goal.overflow_add-end
overflow_add-end c = omega (arith, (here (goal.at.overflow_add-end c).In_ok-head).fits)

pub slice_bounds-put_bytes-end : goal.slice_bounds-put_bytes-end
slice_bounds-put_bytes-end c = omega (arith, (here (goal.at.slice_bounds-put_bytes-end c).In_ok-head).fits)

pub returns-in_err-key_len : goal.returns-in_err-key_len
returns-in_err-key_len c =
    let r = read_full c.args.key.now c.args.rest.now _ (told (goal.at.returns-in_err-key_len c).In_ok-head) c.put_bytes.ensures c.in_err-key_len.ensures.value in
    record { said = c.from_residual-in_err-key_len.ensures ∙ r.said; left = r.left }

pub returns : goal.returns
returns c =
    let r = read_whole c.args.key.now c.args.rest.now _ (told (goal.at.returns c).In_ok-head) c.put_bytes.ensures c.in_ok-key_len.ensures.value in
    record { said = r.said; left = r.left }

-- `codec::blockhandle::decode` meets its contract: the second read, of what is left after the first, is of the size.
use mathlib.Core.Path.{◌≡◌, sym, ap, ◌∙◌}
use mathlib.Core.List.{List}
use Prim.Native.Nat.{ℕ, ◌≤◌, ◌-◌}
use native.Mathlib.Omega.{arith}
use lib.ListN.{length, take, drop, length-drop}
use Rattle.std.specs.Prelude.{Some}
use Rattle.codec.specs.Varint.{varint}
use Rattle.codec.specs.Answers.{given}
use Rattle.codec.proofs.BytesLaws.{part_rest}
use Rattle.codec.proofs.VarintCode.{varint_within, no_offset, no_size, both}
use Rattle.codec.proofs.blockhandle.decode.Goals as goal
use Rattle.codec.proofs.blockhandle.decode.Goals.{In_ok-offset, In_ok-size}

-- the offset, and that its bytes lie within s
offset_is : (c : In_ok-offset) → given (varint c.args.s.now) ≡ Some c.in_ok-offset.offset
offset_is c = sym c.read_varint.ensures ∙ c.in_ok-offset.was

within : (c : In_ok-offset) → c.in_ok-offset.offset.size ≤ length c.args.s.now
within c = varint_within c.args.s.now (offset_is c)

-- the second read is of what is left after the first
rest_is : (s : List ℕ) (n : ℕ) → given (varint (take (length s - n) (drop n s))) ≡ given (varint (drop n s))
rest_is s n = ap (λ (l : List ℕ). given (varint l)) (part_rest s n)

size_is : (c : In_ok-size) → given (varint (drop c.in_ok-offset.offset.size c.args.s.now)) ≡ Some c.in_ok-size.size
size_is c = sym (c.read_varint-2.ensures ∙ rest_is c.args.s.now c.in_ok-offset.offset.size) ∙ c.in_ok-size.was

pub returns-in_err-offset : goal.returns-in_err-offset
returns-in_err-offset c = c.from_residual.ensures ∙ no_offset _ (sym c.read_varint.ensures ∙ c.in_err-offset.was)

pub slice_bounds-read_varint-count : goal.slice_bounds-read_varint-count
slice_bounds-read_varint-count c = within c

pub slice_bounds-read_varint-start : goal.slice_bounds-read_varint-start
slice_bounds-read_varint-start c = within c

pub returns-in_err-size : goal.returns-in_err-size
returns-in_err-size c = c.from_residual-in_err-size.ensures ∙ no_size _ (offset_is (goal.at.returns-in_err-size c).In_ok-offset) (sym (c.read_varint-2.ensures ∙ rest_is c.args.s.now c.in_ok-offset.offset.size) ∙ c.in_err-size.was)

pub overflow_add-result : goal.overflow_add-result
overflow_add-result c = let s = c.args.s.now in
    let n = c.in_ok-offset.offset.size in
    omega (arith, within (goal.at.overflow_add-result c).In_ok-offset, varint_within (drop n s) (size_is (goal.at.overflow_add-result c).In_ok-size), length-drop n s)

pub returns : goal.returns
returns c = both _ (offset_is (goal.at.returns c).In_ok-offset) (size_is (goal.at.returns c).In_ok-size)

-- `bloom::filter::probe_step` meets its contract: the two shifts have no bit in common.
use Rattle.std.proofs.Common.{◌≡◌, ℕ, ◌*◌, ◌/◌, ◌%◌, ◌^◌, ap, ◌∙◌, arith}
use Rattle.std.proofs.lemmas.Nat.{or_comm}
use lib.Bits.{bit_or, or_shifted}
use Rattle.bloom.proofs.filter.probe_step.Goals as goal

pub returns : goal.returns
returns c = let h = c.args.h in
    let e : h * 2 ^ 15 % 2 ^ 32 ≡ h % 2 ^ 17 * 2 ^ 15 = omega arith in
    c.rotate_right.ensures
    ∙ or_comm (h / 2 ^ 17) (h * 2 ^ 15 % 2 ^ 32)
    ∙ ap (λ (n : ℕ). bit_or n (h / 2 ^ 17)) e
    ∙ or_shifted (h % 2 ^ 17) 15 (h / 2 ^ 17) (omega arith)

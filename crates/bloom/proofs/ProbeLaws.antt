-- How many probes: the product of floats, computed at each number of bits up to 64, is 69 * bits / 100 when cut.
use Rattle.std.proofs.Common.{◌≡◌, ℕ, zero, suc, ◌*◌, ◌/◌, ◌<◌, Bool, true, false, ◌&&◌, T, eqb, pos, arith, eqb→eq}
use lib.Count.{count_trailing_zeros}
use lib.Ieee.{Float, fin, binary32, mul, of_int, of_bits, lt, to_unsigned, round, size, span, climb, units, odd, of_fields}
use Rattle.codec.proofs.Prelude.{split, and_l, and_r}

-- a test passes at each number below a bound
abbrev passes : (ℕ → Bool) → ℕ → Bool
passes f zero = true
passes f (suc n) = f n && passes f n

all : (f : ℕ → Bool) (n : ℕ) → T (passes f n) → (k : ℕ) → k < n → T (f k)
all f zero t k h = absurd (omega arith)
all f (suc n) t k h =
    split k n
    (λ l. all f n (and_r (f n) (passes f n) t) k l)
    (λ l. let e : k ≡ n = omega arith in rw e (and_l (f n) (passes f n) t))

-- a number of bits times 0.69
unfoldable pub product : ℕ → Float
product b = mul binary32 (of_int binary32 (pos b)) (of_bits binary32 1060152279)

pub above : (b : ℕ) → b < 65 → T (lt (fin true 1 (pos 0)) (product b))
unfolding product mul of_int of_bits lt to_unsigned round size span climb units odd of_fields count_trailing_zeros
above = all (λ (b : ℕ). lt (fin true 1 (pos 0)) (product b)) 65 tt

pub under : (b : ℕ) → b < 65 → T (lt (product b) (fin false 1 (pos 64)))
unfolding product mul of_int of_bits lt to_unsigned round size span climb units odd of_fields count_trailing_zeros
under = all (λ (b : ℕ). lt (product b) (fin false 1 (pos 64))) 65 tt

pub cut : (b : ℕ) → b < 65 → to_unsigned 64 (product b) ≡ 69 * b / 100
unfolding product mul of_int of_bits lt to_unsigned round size span climb units odd of_fields count_trailing_zeros
cut b h = eqb→eq (to_unsigned 64 (product b)) (69 * b / 100) (all (λ (b : ℕ). eqb (to_unsigned 64 (product b)) (69 * b / 100)) 65 tt b h)

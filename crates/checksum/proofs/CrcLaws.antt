-- The checksum of some bytes goes on over more.
use Rattle.std.proofs.Common.{◌≡◌, ℕ, zero, suc, ◌+◌, ◌*◌, ◌/◌, ◌%◌, ◌<◌, List, [], ◌∷◌, ◌++◌, sym, refl, ap, ◌∙◌, ap₂, arith}
use lib.Arith.{bin_ind}
use lib.Bits.{bit_xor, xor_shr, xor_mod, xor_self, xor_zero_r}
use lib.Pow as Pow
use Rattle.checksum.specs.Checksum.{crc_byte, crc_over, crc_extend}

-- ---- xor, which lib.Bits does not have as associative

-- what holds of 0 and 1 holds of a digit
digit : (P : ℕ → Type 0) → P 0 → P 1 → (x : ℕ) → x < 2 → P x
digit P p q zero h = p
digit P p q (suc zero) h = q
digit P p q (suc (suc x)) h = absurd (omega arith)

digits_assoc : (x y z : ℕ) → x < 2 → y < 2 → z < 2 → bit_xor (bit_xor x y) z ≡ bit_xor x (bit_xor y z)
digits_assoc x y z hx hy hz =
    digit (λ (x : ℕ). bit_xor (bit_xor x y) z ≡ bit_xor x (bit_xor y z)) refl
    (digit (λ (y : ℕ). bit_xor (bit_xor 1 y) z ≡ bit_xor 1 (bit_xor y z)) refl
    (digit (λ (z : ℕ). bit_xor (bit_xor 1 1) z ≡ bit_xor 1 (bit_xor 1 z)) refl refl z hz) y hy) x hx

-- digit by digit
halves : (a b : ℕ) → bit_xor a b ≡ bit_xor (a / 2) (b / 2) * 2 + bit_xor (a % 2) (b % 2)
halves a b = sym (Pow.split (bit_xor a b) 1) ∙ ap₂ (λ (x y : ℕ). x * 2 + y) (xor_shr a b 1) (xor_mod a b 1)

xor_assoc : (a b c : ℕ) → bit_xor (bit_xor a b) c ≡ bit_xor a (bit_xor b c)
xor_assoc =
    bin_ind (λ (a : ℕ). (b c : ℕ) → bit_xor (bit_xor a b) c ≡ bit_xor a (bit_xor b c)) (λ b c. refl)
    (λ a ih b c.
    halves (bit_xor a b) c
    ∙ ap₂ (λ (x y : ℕ). bit_xor x (c / 2) * 2 + bit_xor y (c % 2)) (xor_shr a b 1) (xor_mod a b 1)
    ∙ ap₂ (λ (x y : ℕ). x * 2 + y) (ih (b / 2) (c / 2)) (digits_assoc (a % 2) (b % 2) (c % 2) (omega arith) (omega arith) (omega arith))
    ∙ sym (ap₂ (λ (x y : ℕ). bit_xor (a / 2) x * 2 + bit_xor (a % 2) y) (xor_shr b c 1) (xor_mod b c 1))
    ∙ sym (halves a (bit_xor b c)))

xor_twice : (a m : ℕ) → bit_xor (bit_xor a m) m ≡ a
xor_twice a m = xor_assoc a m m ∙ ap (bit_xor a) (xor_self m) ∙ xor_zero_r a

-- ---- bytes after bytes

over_append : (c : ℕ) (xs ys : List ℕ) → crc_over c (xs ++ ys) ≡ crc_over (crc_over c xs) ys
unfolding crc_over
over_append c [] ys = refl
over_append c (x ∷ xs) ys = over_append (crc_byte c x) xs ys

pub extend_append : (c : ℕ) (xs ys : List ℕ) → crc_extend c (xs ++ ys) ≡ crc_extend (crc_extend c xs) ys
unfolding crc_extend
extend_append c xs ys =
    ap (λ (x : ℕ). bit_xor x 0xffff_ffff)
    (over_append (bit_xor c 0xffff_ffff) xs ys
    ∙ sym (ap (λ (x : ℕ). crc_over x ys) (xor_twice (crc_over (bit_xor c 0xffff_ffff) xs) 0xffff_ffff)))

-- CRC-32C bit by bit (RFC 3720's polynomial 0x1edc6f41, its bits in reverse), its mask, and the trailer of a block. Numbers below 2 ^ 32.
use Rattle.std.specs.Prelude.{ℕ, zero, suc, ◌+◌, ◌*◌, ◌/◌, ◌%◌, ◌^◌, Bool, cond, List, [], ◌∷◌, ◌++◌, ◌==◌, bit_xor}
use Rattle.codec.specs.Bytes.{part, bytes_of, same_bytes}

-- a bit more
unfoldable pub crc_bit : ℕ → ℕ
crc_bit c = cond (c % 2 == 1) (bit_xor (c / 2) 0x82f6_3b78) (c / 2)

-- n bits more
unfoldable pub crc_bits : ℕ → ℕ → ℕ
crc_bits zero c = c
crc_bits (suc n) c = crc_bits n (crc_bit c)

-- a byte more
unfoldable pub crc_byte : ℕ → ℕ → ℕ
crc_byte c b = crc_bits 8 (bit_xor c b)

-- the state after some bytes more
unfoldable pub crc_over : ℕ → List ℕ → ℕ
crc_over c [] = c
crc_over c (b ∷ bs) = crc_over (crc_byte c b) bs

-- the checksum of some bytes, whose checksum is c, and then bs
unfoldable pub crc_extend : ℕ → List ℕ → ℕ
crc_extend c bs = bit_xor (crc_over (bit_xor c 0xffff_ffff) bs) 0xffff_ffff

-- rotated right by 15, plus 0xa282ead8, low 32 bits
unfoldable pub crc_mask : ℕ → ℕ
crc_mask c = (c / 2 ^ 15 + c % 2 ^ 15 * 2 ^ 17 + 0xa282_ead8) % 2 ^ 32

-- the masked checksum of a block's contents and its type, which is 0
unfoldable pub seal_of : List ℕ → ℕ
seal_of s = crc_mask (crc_extend 0 (s ++ (0 ∷ [])))

-- what follows a block's contents: type 0, and that checksum
unfoldable pub trailer : List ℕ → List ℕ
trailer s = 0 ∷ bytes_of 4 (seal_of s)

-- whether that follows the contents of so many bytes at a place
unfoldable pub trailer_stands : List ℕ → ℕ → ℕ → Bool
trailer_stands t offset size = same_bytes (part t (offset + size) 5) (trailer (part t offset size))

-- A checksum has 32 bits.
use Rattle.std.proofs.Common.{ℕ, ◌*◌, ◌/◌, ◌%◌, ◌^◌, ◌<◌, List, [], ◌∷◌, zero, suc, arith, bit_xor}
use Rattle.std.specs.List.{All}
use Rattle.std.proofs.lemmas.Nat.{xor_of_32}
use Rattle.crc32.specs.Crc.{after_bit, after_bits, after_byte, after_bytes, crc_of, divisor}

after_bit_fits : (r : ℕ) → r < 2 ^ 32 → after_bit r < 2 ^ 32
unfolding after_bit
after_bit_fits r fits = xor_of_32 (r / 2) (r % 2 * divisor) (omega arith) (omega arith)

after_bits_fit : (n r : ℕ) → r < 2 ^ 32 → after_bits n r < 2 ^ 32
unfolding after_bits
after_bits_fit zero r fits = fits
after_bits_fit (suc n) r fits = after_bit_fits (after_bits n r) (after_bits_fit n r fits)

after_bytes_fit : (bytes : List ℕ) (r : ℕ) → r < 2 ^ 32 → All (λ b. b < 256) bytes →
    after_bytes r bytes < 2 ^ 32
after_bytes_fit [] r fits all = fits
after_bytes_fit (b ∷ bytes) r fits all =
    after_bytes_fit bytes (after_byte r b)
    (after_bits_fit 8 (bit_xor r b) (xor_of_32 r b fits (omega (arith, all 0 b (omega arith)))))
    (λ k d h. all (suc k) d (omega arith))

pub crc_fits : (bytes : List ℕ) → All (λ b. b < 256) bytes → crc_of bytes < 2 ^ 32
unfolding crc_of
crc_fits bytes all =
    xor_of_32 (after_bytes 0xFFFFFFFF bytes) 0xFFFFFFFF
    (after_bytes_fit bytes 0xFFFFFFFF (omega arith) all) (omega arith)

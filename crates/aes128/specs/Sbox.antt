-- The S-box and its inverse (FIPS 197, sections 5.1.1 and 5.3.2), as formulas.
use Rattle.std.specs.Prelude.{ℕ, ◌+◌, ◌*◌, ◌%◌, find, unwrap_or, ◌==◌}
use Rattle.std.specs.List.{range_with_len}
use Rattle.std.specs.Int.{bit_at}
use Rattle.aes128.specs.Field.{times}

-- the multiplicative inverse (4.4): the byte whose product with a is 1, or 0 where there is none, as at 0
unfoldable pub inverse : ℕ → ℕ
inverse a = unwrap_or (find (λ b. times a b == 1) (range_with_len 0 256)) 0

-- bit i of the affine transformation, whose constant is 0x63 (5.1.1)
abbrev pub affine_bit : ℕ → ℕ → ℕ
affine_bit b i = (bit_at b i + bit_at b ((i + 4) % 8) + bit_at b ((i + 5) % 8) + bit_at b ((i + 6) % 8) + bit_at b ((i + 7) % 8) + bit_at 0x63 i) % 2

-- the affine transformation (5.1.1)
abbrev pub affine : ℕ → ℕ
affine b = affine_bit b 0 + 2 * affine_bit b 1 + 4 * affine_bit b 2 + 8 * affine_bit b 3 + 16 * affine_bit b 4 + 32 * affine_bit b 5 + 64 * affine_bit b 6 + 128 * affine_bit b 7

-- the S-box: the multiplicative inverse, and then the affine transformation (5.1.1)
unfoldable pub sub_byte : ℕ → ℕ
sub_byte a = affine (inverse a)

-- bit i of the inverse of the affine transformation, whose constant is 0x05 (5.3.2)
abbrev pub inv_affine_bit : ℕ → ℕ → ℕ
inv_affine_bit b i = (bit_at b ((i + 2) % 8) + bit_at b ((i + 5) % 8) + bit_at b ((i + 7) % 8) + bit_at 0x05 i) % 2

-- the inverse of the affine transformation (5.3.2)
abbrev pub inv_affine : ℕ → ℕ
inv_affine b = inv_affine_bit b 0 + 2 * inv_affine_bit b 1 + 4 * inv_affine_bit b 2 + 8 * inv_affine_bit b 3 + 16 * inv_affine_bit b 4 + 32 * inv_affine_bit b 5 + 64 * inv_affine_bit b 6 + 128 * inv_affine_bit b 7

-- the inverse S-box: the inverse of the affine transformation, and then the multiplicative inverse (5.3.2)
unfoldable pub inv_sub_byte : ℕ → ℕ
inv_sub_byte a = inverse (inv_affine a)

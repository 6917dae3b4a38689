-- The field GF(2^8) (FIPS 197, section 4). An element is a byte, whose bits are the coefficients of a
-- polynomial over {0, 1}.
use Rattle.std.specs.Prelude.{ℕ, zero, suc, ◌*◌, ◌/◌, ◌%◌, nat_lt, bit_xor, if◌then◌else◌}

-- x · b modulo x^8 + x^4 + x^3 + x + 1, whose bits are 0x11b (4.2)
abbrev pub times_x : ℕ → ℕ
times_x b = if nat_lt b 128 then 2 * b else bit_xor (2 * b) 0x11b

-- the product of b and the lowest n coefficients of a: the sum of x^i · b over the coefficients i that are 1 (4.2)
unfoldable pub product : ℕ → ℕ → ℕ → ℕ
product zero a b = 0
product (suc n) a b = bit_xor (a % 2 * b) (product n (a / 2) (times_x b))

-- a · b (4.2)
unfoldable pub times : ℕ → ℕ → ℕ
unfolding product
times a b = product 8 a b

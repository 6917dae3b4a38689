-- AES-128 (FIPS 197, section 5.1), on lists of 16 bytes.
use Rattle.std.specs.Prelude.{ℕ, zero, suc, ◌+◌, ◌%◌, bit_xor, List}
use Rattle.aes128.specs.Field.{times}
use Rattle.aes128.specs.Sbox.{sub_byte}
use Rattle.aes128.specs.State.{at, state_of}
use Rattle.aes128.specs.KeyExpansion.{round_key}

-- SubBytes (5.1.1)
unfoldable pub sub_bytes : List ℕ → List ℕ
sub_bytes s = state_of (λ r c. sub_byte (at s r c))

-- ShiftRows: row r moves r places to the left, cyclically (5.1.2)
unfoldable pub shift_rows : List ℕ → List ℕ
shift_rows s = state_of (λ r c. at s r ((c + r) % 4))

-- the product of a row of a matrix and a column: k0·a + k1·b + k2·c + k3·d (4.3)
abbrev pub combined : ℕ → ℕ → ℕ → ℕ → ℕ → ℕ → ℕ → ℕ → ℕ
combined k0 k1 k2 k3 a b c d = bit_xor (bit_xor (times k0 a) (times k1 b)) (bit_xor (times k2 c) (times k3 d))

-- each column times the matrix whose first row is k0 k1 k2 k3, each next row one place further to the right (4.3)
abbrev pub mixed : ℕ → ℕ → ℕ → ℕ → List ℕ → List ℕ
mixed k0 k1 k2 k3 s = state_of (λ r c.
    combined k0 k1 k2 k3 (at s r c) (at s ((r + 1) % 4) c) (at s ((r + 2) % 4) c) (at s ((r + 3) % 4) c))

-- MixColumns (5.1.3)
unfoldable pub mix_columns : List ℕ → List ℕ
mix_columns s = mixed 2 3 1 1 s

-- AddRoundKey (5.1.4)
unfoldable pub add_round_key : List ℕ → List ℕ → List ℕ
add_round_key s k = state_of (λ r c. bit_xor (at s r c) (at k r c))

-- the state after round n, all rounds but the last being alike; round 0 adds the key alone (5.1)
unfoldable pub rounds : List ℕ → List ℕ → ℕ → List ℕ
rounds key block zero = add_round_key block (round_key key 0)
rounds key block (suc n) = add_round_key (mix_columns (shift_rows (sub_bytes (rounds key block n)))) (round_key key (suc n))

-- Cipher: ten rounds, the last without MixColumns (5.1)
unfoldable pub cipher : List ℕ → List ℕ → List ℕ
cipher key block = add_round_key (shift_rows (sub_bytes (rounds key block 9))) (round_key key 10)

-- The inverse cipher of AES-128 (FIPS 197, section 5.3), on lists of 16 bytes.
use Rattle.std.specs.Prelude.{ℕ, zero, suc, ◌+◌, ◌-◌, ◌%◌, List, [], ◌∷◌}
use Rattle.aes128.specs.Sbox.{inv_sub_byte}
use Rattle.aes128.specs.State.{at, state_of}
use Rattle.aes128.specs.KeyExpansion.{round_key}
use Rattle.aes128.specs.Cipher.{mixed, add_round_key}

-- InvShiftRows: row r moves r places to the right, cyclically (5.3.1)
unfoldable pub inv_shift_rows : List ℕ → List ℕ
inv_shift_rows s = state_of (λ r c. at s r ((c + 4 - r) % 4))

-- InvSubBytes (5.3.2)
unfoldable pub inv_sub_bytes : List ℕ → List ℕ
inv_sub_bytes s = state_of (λ r c. inv_sub_byte (at s r c))

-- InvMixColumns (5.3.3)
unfoldable pub inv_mix_columns : List ℕ → List ℕ
inv_mix_columns s = mixed 14 11 13 9 s

-- the state after n rounds, all but the last being alike; the first step adds the last round key alone (5.3)
unfoldable pub inv_rounds : List ℕ → List ℕ → ℕ → List ℕ
inv_rounds key block zero = add_round_key block (round_key key 10)
inv_rounds key block (suc n) = inv_mix_columns (add_round_key (inv_sub_bytes (inv_shift_rows (inv_rounds key block n))) (round_key key (9 - n)))

-- InvCipher: ten rounds, the last without InvMixColumns (5.3)
unfoldable pub inv_cipher : List ℕ → List ℕ → List ℕ
inv_cipher key block = add_round_key (inv_sub_bytes (inv_shift_rows (inv_rounds key block 9))) (round_key key 0)

-- KeyExpansionEIC: the round keys of the equivalent inverse cipher, those of rounds 1 to 9 after InvMixColumns (5.3.5)
unfoldable pub inverse_round_keys : List ℕ → List (List ℕ)
inverse_round_keys key =
    round_key key 0 ∷ inv_mix_columns (round_key key 1) ∷ inv_mix_columns (round_key key 2) ∷ inv_mix_columns (round_key key 3)
    ∷ inv_mix_columns (round_key key 4) ∷ inv_mix_columns (round_key key 5) ∷ inv_mix_columns (round_key key 6)
    ∷ inv_mix_columns (round_key key 7) ∷ inv_mix_columns (round_key key 8) ∷ inv_mix_columns (round_key key 9)
    ∷ round_key key 10 ∷ []

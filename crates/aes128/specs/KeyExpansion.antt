-- KeyExpansion for a key of 16 bytes (FIPS 197, section 5.2). A word is a column of a round key.
use Rattle.std.specs.Prelude.{ℕ, zero, suc, ◌+◌, ◌%◌, ◌==◌, if◌then◌else◌, bit_xor, List, [], ◌∷◌}
use Rattle.aes128.specs.Field.{times_x}
use Rattle.aes128.specs.Sbox.{sub_byte}
use Rattle.aes128.specs.State.{at, state_of}

-- the first byte of Rcon for round n + 1: x to the power of n; the other three bytes are 0
unfoldable pub round_constant : ℕ → ℕ
round_constant zero = 1
round_constant (suc n) = times_x (round_constant n)

-- byte r of word c of the round key after k: word 0 is k's word 0 + SubWord(RotWord(k's word 3)) + Rcon, and each
-- other word is k's + the new word before it
unfoldable pub new_byte : ℕ → List ℕ → ℕ → ℕ → ℕ
new_byte constant k r zero = bit_xor (bit_xor (at k r 0) (sub_byte (at k ((r + 1) % 4) 3))) (if r == 0 then constant else 0)
new_byte constant k r (suc c) = bit_xor (at k r (suc c)) (new_byte constant k r c)

-- the round key after k
unfoldable pub next_key : ℕ → List ℕ → List ℕ
next_key constant k = state_of (new_byte constant k)

-- the key of round n; that of round 0 is the key itself
unfoldable pub round_key : List ℕ → ℕ → List ℕ
round_key key zero = key
round_key key (suc n) = next_key (round_constant n) (round_key key n)

-- the keys of rounds 0 to 10
unfoldable pub round_keys : List ℕ → List (List ℕ)
round_keys key =
    round_key key 0 ∷ round_key key 1 ∷ round_key key 2 ∷ round_key key 3 ∷ round_key key 4 ∷ round_key key 5
    ∷ round_key key 6 ∷ round_key key 7 ∷ round_key key 8 ∷ round_key key 9 ∷ round_key key 10 ∷ []

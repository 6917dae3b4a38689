-- The inverse cipher takes the cipher back.
use Rattle.std.proofs.Common.{◌≡◌, ℕ, zero, suc, ◌+◌, ◌-◌, List, length, refl, ap, ◌∙◌, arith}
use Rattle.aes128.specs.Bytes.{AreBytes}
use Rattle.aes128.specs.State.{at, state_of}
use Rattle.aes128.specs.KeyExpansion.{round_key}
use Rattle.aes128.specs.Cipher.{sub_bytes, shift_rows, mix_columns, add_round_key, rounds, cipher}
use Rattle.aes128.specs.InverseCipher.{inv_mix_columns, inv_rounds, inv_cipher}
use Rattle.aes128.proofs.States.{whole_state}
use Rattle.aes128.proofs.Steps.{round_key_bytes, keyed_bytes, subbed_bytes, shifted_bytes, mixed_bytes, keyed_state, shifted_state, mixed_state, unsubbed, unkeyed}
use Rattle.aes128.proofs.Matrices.{unmixed}

rounds_bytes : (key block : List ℕ) (n : ℕ) → AreBytes key → AreBytes block → AreBytes (rounds key block n)
unfolding rounds
rounds_bytes key block zero fk fb = keyed_bytes block (round_key key 0) fb (round_key_bytes key 0 fk)
rounds_bytes key block (suc n) fk fb =
    keyed_bytes (mix_columns (shift_rows (sub_bytes (rounds key block n)))) (round_key key (suc n)) (mixed_bytes _ (shifted_bytes _ (subbed_bytes (rounds key block n)))) (round_key_bytes key (suc n) fk)

rounds_state : (key block : List ℕ) (n : ℕ) → state_of (λ r c. at (rounds key block n) r c) ≡ rounds key block n
unfolding rounds
rounds_state key block zero = keyed_state block (round_key key 0)
rounds_state key block (suc n) = keyed_state (mix_columns (shift_rows (sub_bytes (rounds key block n)))) (round_key key (suc n))

unkeyed_round : (key block : List ℕ) (m : ℕ) → add_round_key (rounds key block (suc m)) (round_key key (suc m)) ≡ mix_columns (shift_rows (sub_bytes (rounds key block m)))
unfolding rounds
unkeyed_round key block m =
    unkeyed (mix_columns (shift_rows (sub_bytes (rounds key block m)))) (round_key key (suc m)) ∙ mixed_state (shift_rows (sub_bytes (rounds key block m)))

first_round : (key block : List ℕ) → add_round_key (rounds key block 0) (round_key key 0) ≡ state_of (λ r c. at block r c)
unfolding rounds
first_round key block = unkeyed block (round_key key 0)

-- after n rounds of the inverse cipher stands what stood in the cipher after round m, substituted and shifted
taken_back : (key block : List ℕ) (n m : ℕ) → AreBytes key → AreBytes block → m + n ≡ 9 → inv_rounds key (cipher key block) n ≡ shift_rows (sub_bytes (rounds key block m))
unfolding inv_rounds cipher
taken_back key block zero m fk fb e =
    let last : 9 ≡ m = omega arith in
    rw (← last) (unkeyed (shift_rows (sub_bytes (rounds key block 9))) (round_key key 10) ∙ shifted_state (sub_bytes (rounds key block 9)))
taken_back key block (suc n) m fk fb e =
    let next : 9 - n ≡ suc m = omega arith in
    let before = taken_back key block n (suc m) fk fb (omega arith) in
    let state = rounds key block m in
    rw (before, next, unsubbed (rounds key block (suc m)) (rounds_bytes key block (suc m) fk fb), rounds_state key block (suc m))
    (ap inv_mix_columns (unkeyed_round key block m) ∙ unmixed (shift_rows (sub_bytes state)) (shifted_bytes _ (subbed_bytes state)) ∙ shifted_state (sub_bytes state))

pub inverse_of_cipher : (key block : List ℕ) → length block ≡ 16 → AreBytes key → AreBytes block → inv_cipher key (cipher key block) ≡ block
unfolding inv_cipher
inverse_of_cipher key block len fk fb =
    rw (taken_back key block 9 0 fk fb refl, unsubbed (rounds key block 0) (rounds_bytes key block 0 fk fb), rounds_state key block 0)
    (first_round key block ∙ whole_state block len)

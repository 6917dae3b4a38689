-- The cipher takes the inverse cipher back.
use Rattle.std.proofs.Common.{◌≡◌, ℕ, zero, suc, ◌+◌, ◌-◌, List, length, refl, ◌∙◌, arith}
use Rattle.aes128.specs.Bytes.{AreBytes}
use Rattle.aes128.specs.State.{at, state_of}
use Rattle.aes128.specs.KeyExpansion.{round_key}
use Rattle.aes128.specs.Cipher.{mix_columns, add_round_key, rounds, cipher}
use Rattle.aes128.specs.InverseCipher.{inv_sub_bytes, inv_shift_rows, inv_rounds, inv_cipher}
use Rattle.aes128.proofs.States.{whole_state}
use Rattle.aes128.proofs.Steps.{round_key_bytes, keyed_bytes, inv_subbed_bytes, inv_shifted_bytes, inv_mixed_bytes, keyed_state, inv_subbed_state, inv_mixed_state, resubbed, unkeyed}
use Rattle.aes128.proofs.Matrices.{remixed}

inv_rounds_bytes : (key block : List ℕ) (n : ℕ) → AreBytes key → AreBytes block → AreBytes (inv_rounds key block n)
unfolding inv_rounds
inv_rounds_bytes key block zero fk fb = keyed_bytes block (round_key key 10) fb (round_key_bytes key 10 fk)
inv_rounds_bytes key block (suc n) fk fb =
    inv_mixed_bytes _ (keyed_bytes _ (round_key key (9 - n)) (inv_subbed_bytes _ (inv_shifted_bytes (inv_rounds key block n) (inv_rounds_bytes key block n fk fb))) (round_key_bytes key (9 - n) fk))

inv_rounds_state : (key block : List ℕ) (n : ℕ) → state_of (λ r c. at (inv_rounds key block n) r c) ≡ inv_rounds key block n
unfolding inv_rounds
inv_rounds_state key block zero = keyed_state block (round_key key 10)
inv_rounds_state key block (suc n) = inv_mixed_state (add_round_key (inv_sub_bytes (inv_shift_rows (inv_rounds key block n))) (round_key key (9 - n)))

-- what the columns of a round of the inverse cipher were made of
remixed_round : (key block : List ℕ) (n : ℕ) → AreBytes key → AreBytes block
    → mix_columns (inv_rounds key block (suc n)) ≡ add_round_key (inv_sub_bytes (inv_shift_rows (inv_rounds key block n))) (round_key key (9 - n))
unfolding inv_rounds
remixed_round key block n fk fb =
    let inner = inv_sub_bytes (inv_shift_rows (inv_rounds key block n)) in
    remixed (add_round_key inner (round_key key (9 - n))) (keyed_bytes inner (round_key key (9 - n)) (inv_subbed_bytes _ (inv_shifted_bytes (inv_rounds key block n) (inv_rounds_bytes key block n fk fb))) (round_key_bytes key (9 - n) fk))
    ∙ keyed_state inner (round_key key (9 - n))

-- after round n of the cipher stands what stood in the inverse cipher after m rounds, shifted and substituted
given_back : (key block : List ℕ) (n m : ℕ) → AreBytes key → AreBytes block → m + n ≡ 9 → rounds key (inv_cipher key block) n ≡ inv_sub_bytes (inv_shift_rows (inv_rounds key block m))
unfolding rounds inv_cipher
given_back key block zero m fk fb e =
    let last : 9 ≡ m = omega arith in
    rw (← last) (unkeyed (inv_sub_bytes (inv_shift_rows (inv_rounds key block 9))) (round_key key 0) ∙ inv_subbed_state (inv_shift_rows (inv_rounds key block 9)))
given_back key block (suc n) m fk fb e =
    let next : 9 - m ≡ suc n = omega arith in
    let before = given_back key block n (suc m) fk fb (omega arith) in
    let inner = inv_sub_bytes (inv_shift_rows (inv_rounds key block m)) in
    rw (before, resubbed (inv_rounds key block (suc m)) (inv_rounds_bytes key block (suc m) fk fb), inv_rounds_state key block (suc m), remixed_round key block m fk fb, next)
    (unkeyed inner (round_key key (suc n)) ∙ inv_subbed_state (inv_shift_rows (inv_rounds key block m)))

inv_first_round : (key block : List ℕ) → add_round_key (inv_rounds key block 0) (round_key key 10) ≡ state_of (λ r c. at block r c)
unfolding inv_rounds
inv_first_round key block = unkeyed block (round_key key 10)

pub cipher_of_inverse : (key block : List ℕ) → length block ≡ 16 → AreBytes key → AreBytes block → cipher key (inv_cipher key block) ≡ block
unfolding cipher
cipher_of_inverse key block len fk fb =
    rw (given_back key block 9 0 fk fb refl, resubbed (inv_rounds key block 0) (inv_rounds_bytes key block 0 fk fb), inv_rounds_state key block 0)
    (inv_first_round key block ∙ whole_state block len)

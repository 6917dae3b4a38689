-- Each step of a round gives a state of bytes, and each step of the inverse cipher undoes its step.
use Rattle.std.proofs.Common.{◌≡◌, ℕ, zero, suc, ◌+◌, ◌-◌, ◌*◌, ◌%◌, ◌<◌, List, bit_xor, refl, ap, ◌∙◌, arith, Bool, true, false, cond, nat_lt, eqb}
use Rattle.std.specs.Int.Bits.{xor_assoc, xor_self, xor_zero_r, xor_lt}
use Rattle.std.proofs.lemmas.Bool.{ltb-true}
use Rattle.aes128.specs.Bytes.{AreBytes}
use Rattle.aes128.specs.Field.{product, times}
use Rattle.aes128.specs.Sbox.{inverse, sub_byte, inv_sub_byte}
use Rattle.aes128.specs.State.{at, state_of}
use Rattle.aes128.specs.KeyExpansion.{round_constant, new_byte, next_key, round_key}
use Rattle.aes128.specs.Cipher.{sub_bytes, shift_rows, combined, mix_columns, add_round_key}
use Rattle.aes128.specs.InverseCipher.{inv_sub_bytes, inv_shift_rows, inv_mix_columns}
use Rattle.aes128.proofs.Below.{all_below, below, same_below}
use Rattle.aes128.proofs.Linear.{combined-lt, times_x-lt}
use Rattle.aes128.proofs.States.{same_state, state_bytes}

-- ---- bytes

pub sub_byte-lt : (x : ℕ) → sub_byte x < 256
unfolding sub_byte
sub_byte-lt x = omega arith

pub inv_sub_byte-lt : (x : ℕ) → x < 256 → inv_sub_byte x < 256
unfolding all_below product times inverse inv_sub_byte
inv_sub_byte-lt x lt = ltb-true (inv_sub_byte x) 256 (below (λ k. nat_lt (inv_sub_byte k) 256) 256 x refl lt)

constant-lt : (n : ℕ) → round_constant n < 256
unfolding round_constant
constant-lt zero = omega arith
constant-lt (suc n) = times_x-lt (round_constant n) (constant-lt n)

cond-lt : (b : Bool) (x : ℕ) → x < 256 → cond b x 0 < 256
cond-lt true x lt = lt
cond-lt false x lt = omega arith

new_byte-lt : (constant : ℕ) (k : List ℕ) (r c : ℕ) → constant < 256 → AreBytes k → new_byte constant k r c < 256
unfolding new_byte
new_byte-lt constant k r zero lt fits =
    xor_lt 8 _ _ (xor_lt 8 _ _ (fits.each _) (sub_byte-lt _)) (cond-lt (eqb r 0) constant lt)
new_byte-lt constant k r (suc c) lt fits = xor_lt 8 _ _ (fits.each _) (new_byte-lt constant k r c lt fits)

pub round_key_bytes : (key : List ℕ) (n : ℕ) → AreBytes key → AreBytes (round_key key n)
unfolding round_key next_key
round_key_bytes key zero fits = fits
round_key_bytes key (suc n) fits =
    state_bytes (new_byte (round_constant n) (round_key key n)) (λ r c. new_byte-lt (round_constant n) (round_key key n) r c (constant-lt n) (round_key_bytes key n fits))

pub keyed_bytes : (s k : List ℕ) → AreBytes s → AreBytes k → AreBytes (add_round_key s k)
unfolding add_round_key
keyed_bytes s k fs fk = state_bytes (λ r c. bit_xor (at s r c) (at k r c)) (λ r c. xor_lt 8 _ _ (fs.each _) (fk.each _))

pub subbed_bytes : (s : List ℕ) → AreBytes (sub_bytes s)
unfolding sub_bytes
subbed_bytes s = state_bytes (λ r c. sub_byte (at s r c)) (λ r c. sub_byte-lt (at s r c))

pub inv_subbed_bytes : (s : List ℕ) → AreBytes s → AreBytes (inv_sub_bytes s)
unfolding inv_sub_bytes
inv_subbed_bytes s fits = state_bytes (λ r c. inv_sub_byte (at s r c)) (λ r c. inv_sub_byte-lt (at s r c) (fits.each _))

pub shifted_bytes : (s : List ℕ) → AreBytes s → AreBytes (shift_rows s)
unfolding shift_rows
shifted_bytes s fits = state_bytes (λ r c. at s r ((c + r) % 4)) (λ r c. fits.each _)

pub inv_shifted_bytes : (s : List ℕ) → AreBytes s → AreBytes (inv_shift_rows s)
unfolding inv_shift_rows
inv_shifted_bytes s fits = state_bytes (λ r c. at s r ((c + 4 - r) % 4)) (λ r c. fits.each _)

pub mixed_bytes : (s : List ℕ) → AreBytes s → AreBytes (mix_columns s)
unfolding mix_columns
mixed_bytes s fits = state_bytes (λ r c. combined 2 3 1 1 (at s r c) (at s ((r + 1) % 4) c) (at s ((r + 2) % 4) c) (at s ((r + 3) % 4) c))
    (λ r c. combined-lt 2 3 1 1 _ _ _ _ (fits.each _) (fits.each _) (fits.each _) (fits.each _))

pub inv_mixed_bytes : (s : List ℕ) → AreBytes s → AreBytes (inv_mix_columns s)
unfolding inv_mix_columns
inv_mixed_bytes s fits = state_bytes (λ r c. combined 14 11 13 9 (at s r c) (at s ((r + 1) % 4) c) (at s ((r + 2) % 4) c) (at s ((r + 3) % 4) c))
    (λ r c. combined-lt 14 11 13 9 _ _ _ _ (fits.each _) (fits.each _) (fits.each _) (fits.each _))

-- ---- what a step gives is a state

pub keyed_state : (s k : List ℕ) → state_of (λ r c. at (add_round_key s k) r c) ≡ add_round_key s k
unfolding add_round_key
keyed_state s k = refl

pub shifted_state : (s : List ℕ) → state_of (λ r c. at (shift_rows s) r c) ≡ shift_rows s
unfolding shift_rows
shifted_state s = refl

pub inv_subbed_state : (s : List ℕ) → state_of (λ r c. at (inv_sub_bytes s) r c) ≡ inv_sub_bytes s
unfolding inv_sub_bytes
inv_subbed_state s = refl

pub mixed_state : (s : List ℕ) → state_of (λ r c. at (mix_columns s) r c) ≡ mix_columns s
unfolding mix_columns
mixed_state s = refl

pub inv_mixed_state : (s : List ℕ) → state_of (λ r c. at (inv_mix_columns s) r c) ≡ inv_mix_columns s
unfolding inv_mix_columns
inv_mixed_state s = refl

-- ---- steps undone

pub sub_back : (x : ℕ) → x < 256 → inv_sub_byte (sub_byte x) ≡ x
unfolding all_below product times inverse sub_byte inv_sub_byte
sub_back x lt = same_below (λ k. inv_sub_byte (sub_byte k)) (λ k. k) 256 x refl lt

inv_sub_back : (x : ℕ) → x < 256 → sub_byte (inv_sub_byte x) ≡ x
unfolding all_below product times inverse sub_byte inv_sub_byte
inv_sub_back x lt = same_below (λ k. sub_byte (inv_sub_byte k)) (λ k. k) 256 x refl lt

pub unsubbed : (s : List ℕ) → AreBytes s → inv_sub_bytes (inv_shift_rows (shift_rows (sub_bytes s))) ≡ state_of (λ r c. at s r c)
unfolding inv_sub_bytes inv_shift_rows shift_rows sub_bytes
unsubbed s fits = same_state (λ r c. inv_sub_byte (sub_byte (at s r c))) (λ r c. at s r c) (λ r c. sub_back (at s r c) (fits.each (r + 4 * c)))

pub resubbed : (s : List ℕ) → AreBytes s → shift_rows (sub_bytes (inv_sub_bytes (inv_shift_rows s))) ≡ state_of (λ r c. at s r c)
unfolding inv_sub_bytes inv_shift_rows shift_rows sub_bytes
resubbed s fits = same_state (λ r c. sub_byte (inv_sub_byte (at s r c))) (λ r c. at s r c) (λ r c. inv_sub_back (at s r c) (fits.each (r + 4 * c)))

pub xor_twice : (x k : ℕ) → bit_xor (bit_xor x k) k ≡ x
xor_twice x k = xor_assoc x k k ∙ ap (λ n. bit_xor x n) (xor_self k) ∙ xor_zero_r x

pub unkeyed : (s k : List ℕ) → add_round_key (add_round_key s k) k ≡ state_of (λ r c. at s r c)
unfolding add_round_key
unkeyed s k = same_state (λ r c. bit_xor (bit_xor (at s r c) (at k r c)) (at k r c)) (λ r c. at s r c) (λ r c. xor_twice (at s r c) (at k r c))

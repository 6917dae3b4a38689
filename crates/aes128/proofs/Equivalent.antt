-- The equivalent inverse cipher: InvMixColumns of a sum of two states (FIPS 197, section 5.3.5).
use Rattle.std.proofs.Common.{◌≡◌, ℕ, List, slice_index, bit_xor, refl}
use Rattle.aes128.specs.Bytes.{AreBytes}
use Rattle.aes128.specs.Cipher.{combined, add_round_key}
use Rattle.aes128.specs.InverseCipher.{inv_mix_columns}
use Rattle.aes128.proofs.Linear.{combined_xor}

-- a row of InvMixColumns times a column of a sum
summed_column : (s k : List ℕ) → AreBytes s → AreBytes k → (a b c d : ℕ)
    → combined 14 11 13 9 (bit_xor (slice_index s a) (slice_index k a)) (bit_xor (slice_index s b) (slice_index k b))
    (bit_xor (slice_index s c) (slice_index k c)) (bit_xor (slice_index s d) (slice_index k d))
    ≡ bit_xor (combined 14 11 13 9 (slice_index s a) (slice_index s b) (slice_index s c) (slice_index s d))
    (combined 14 11 13 9 (slice_index k a) (slice_index k b) (slice_index k c) (slice_index k d))
summed_column s k fs fk a b c d =
    combined_xor 14 11 13 9 (slice_index s a) (slice_index s b) (slice_index s c) (slice_index s d) (slice_index k a) (slice_index k b) (slice_index k c) (slice_index k d)
    (fs.each a) (fs.each b) (fs.each c) (fs.each d) (fk.each a) (fk.each b) (fk.each c) (fk.each d)

-- InvMixColumns takes a sum to the sum
pub inv_mixed_sum : (s k : List ℕ) → AreBytes s → AreBytes k → inv_mix_columns (add_round_key s k) ≡ add_round_key (inv_mix_columns s) (inv_mix_columns k)
unfolding inv_mix_columns add_round_key
inv_mixed_sum s k fs fk =
    rw (
      summed_column s k fs fk 0 1 2 3,
      summed_column s k fs fk 1 2 3 0,
      summed_column s k fs fk 2 3 0 1,
      summed_column s k fs fk 3 0 1 2,
      summed_column s k fs fk 4 5 6 7,
      summed_column s k fs fk 5 6 7 4,
      summed_column s k fs fk 6 7 4 5,
      summed_column s k fs fk 7 4 5 6,
      summed_column s k fs fk 8 9 10 11,
      summed_column s k fs fk 9 10 11 8,
      summed_column s k fs fk 10 11 8 9,
      summed_column s k fs fk 11 8 9 10,
      summed_column s k fs fk 12 13 14 15,
      summed_column s k fs fk 13 14 15 12,
      summed_column s k fs fk 14 15 12 13,
      summed_column s k fs fk 15 12 13 14,
    ) refl

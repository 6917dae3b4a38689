-- The tables, computed.
use Rattle.std.proofs.Common.{◌≡◌, ℕ, List, map, refl, ap, ◌∙◌}
use Rattle.std.proofs.lemmas.Simd.{map-map}
use Rattle.std.specs.List.{range_with_len}
use Rattle.std.specs.Int.{w32, rotate_right}
use Rattle.aes128.specs.Field.{product, times}
use Rattle.aes128.specs.Sbox.{inverse, sub_byte, inv_sub_byte}
use Rattle.aes128.specs.Words.{word, mixed_word, inv_mixed_word, table_word, inverse_table_word}
use Rattle.aes128.specs.declared.sbox.TheConstants.{SBOX, INVERSE_SBOX}
use Rattle.aes128.specs.declared.word_tables.TheConstants.{TABLE_0, TABLE_8, TABLE_16, TABLE_24, INVERSE_TABLE_0, INVERSE_TABLE_8, INVERSE_TABLE_16, INVERSE_TABLE_24}

pub sub_table : SBOX ≡ map sub_byte (range_with_len 0 256)
unfolding product times inverse sub_byte
sub_table = refl

pub inv_sub_table : INVERSE_SBOX ≡ map inv_sub_byte (range_with_len 0 256)
unfolding product times inverse sub_byte inv_sub_byte
inv_sub_table = refl

-- ---- the word tables, each computed from a table of the S-box

from_table : (t u : List ℕ) (f g : ℕ → ℕ) → t ≡ map f (range_with_len 0 256) → u ≡ map g t → u ≡ map (λ x. g (f x)) (range_with_len 0 256)
from_table t u f g is made = made ∙ ap (map g) is ∙ map-map g f (range_with_len 0 256)

made_0 : TABLE_0 ≡ map (λ s. rotate_right w32 (mixed_word s) 0) SBOX
unfolding product times word mixed_word
made_0 = refl

pub table_0 : TABLE_0 ≡ map (table_word 0) (range_with_len 0 256)
unfolding table_word
table_0 = from_table SBOX TABLE_0 sub_byte (λ s. rotate_right w32 (mixed_word s) 0) sub_table made_0

made_8 : TABLE_8 ≡ map (λ s. rotate_right w32 (mixed_word s) 8) SBOX
unfolding product times word mixed_word
made_8 = refl

pub table_8 : TABLE_8 ≡ map (table_word 8) (range_with_len 0 256)
unfolding table_word
table_8 = from_table SBOX TABLE_8 sub_byte (λ s. rotate_right w32 (mixed_word s) 8) sub_table made_8

made_16 : TABLE_16 ≡ map (λ s. rotate_right w32 (mixed_word s) 16) SBOX
unfolding product times word mixed_word
made_16 = refl

pub table_16 : TABLE_16 ≡ map (table_word 16) (range_with_len 0 256)
unfolding table_word
table_16 = from_table SBOX TABLE_16 sub_byte (λ s. rotate_right w32 (mixed_word s) 16) sub_table made_16

made_24 : TABLE_24 ≡ map (λ s. rotate_right w32 (mixed_word s) 24) SBOX
unfolding product times word mixed_word
made_24 = refl

pub table_24 : TABLE_24 ≡ map (table_word 24) (range_with_len 0 256)
unfolding table_word
table_24 = from_table SBOX TABLE_24 sub_byte (λ s. rotate_right w32 (mixed_word s) 24) sub_table made_24

inverse_made_0 : INVERSE_TABLE_0 ≡ map (λ v. rotate_right w32 (inv_mixed_word v) 0) INVERSE_SBOX
unfolding product times word inv_mixed_word
inverse_made_0 = refl

pub inverse_table_0 : INVERSE_TABLE_0 ≡ map (inverse_table_word 0) (range_with_len 0 256)
unfolding inverse_table_word
inverse_table_0 = from_table INVERSE_SBOX INVERSE_TABLE_0 inv_sub_byte (λ v. rotate_right w32 (inv_mixed_word v) 0) inv_sub_table inverse_made_0

inverse_made_8 : INVERSE_TABLE_8 ≡ map (λ v. rotate_right w32 (inv_mixed_word v) 8) INVERSE_SBOX
unfolding product times word inv_mixed_word
inverse_made_8 = refl

pub inverse_table_8 : INVERSE_TABLE_8 ≡ map (inverse_table_word 8) (range_with_len 0 256)
unfolding inverse_table_word
inverse_table_8 = from_table INVERSE_SBOX INVERSE_TABLE_8 inv_sub_byte (λ v. rotate_right w32 (inv_mixed_word v) 8) inv_sub_table inverse_made_8

inverse_made_16 : INVERSE_TABLE_16 ≡ map (λ v. rotate_right w32 (inv_mixed_word v) 16) INVERSE_SBOX
unfolding product times word inv_mixed_word
inverse_made_16 = refl

pub inverse_table_16 : INVERSE_TABLE_16 ≡ map (inverse_table_word 16) (range_with_len 0 256)
unfolding inverse_table_word
inverse_table_16 = from_table INVERSE_SBOX INVERSE_TABLE_16 inv_sub_byte (λ v. rotate_right w32 (inv_mixed_word v) 16) inv_sub_table inverse_made_16

inverse_made_24 : INVERSE_TABLE_24 ≡ map (λ v. rotate_right w32 (inv_mixed_word v) 24) INVERSE_SBOX
unfolding product times word inv_mixed_word
inverse_made_24 = refl

pub inverse_table_24 : INVERSE_TABLE_24 ≡ map (inverse_table_word 24) (range_with_len 0 256)
unfolding inverse_table_word
inverse_table_24 = from_table INVERSE_SBOX INVERSE_TABLE_24 inv_sub_byte (λ v. rotate_right w32 (inv_mixed_word v) 24) inv_sub_table inverse_made_24

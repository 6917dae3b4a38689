-- The state as four words (FIPS 197, section 3.5), and the rows of the word tables.
use Rattle.std.specs.Prelude.{ℕ, ◌+◌, ◌-◌, ◌*◌, ◌/◌, ◌%◌, ◌^◌, List, slice_index}
use Rattle.std.specs.Int.{w32, rotate_right}
use Rattle.aes128.specs.Field.{times}
use Rattle.aes128.specs.Sbox.{sub_byte, inv_sub_byte}
use Rattle.aes128.specs.State.{state_of}

-- the word of the bytes a, b, c and d, the first highest (3.5)
unfoldable pub word : ℕ → ℕ → ℕ → ℕ → ℕ
word a b c d = ((a * 256 + b) * 256 + c) * 256 + d

-- the byte of row r of a word, that of the first row highest (3.5)
unfoldable pub row_byte : ℕ → ℕ → ℕ
row_byte w r = w / 2 ^ (24 - 8 * r) % 256

-- the state whose columns are four words (3.5)
unfoldable pub state_of_words : List ℕ → List ℕ
state_of_words words = state_of (λ r c. row_byte (slice_index words c) r)

-- s times the first column of the matrix of MixColumns (5.1.3)
unfoldable pub mixed_word : ℕ → ℕ
mixed_word s = word (times 2 s) s s (times 3 s)

-- v times the first column of the matrix of InvMixColumns (5.3.3)
unfoldable pub inv_mixed_word : ℕ → ℕ
inv_mixed_word v = word (times 14 v) (times 9 v) (times 13 v) (times 11 v)

-- the row of x in the table of the cipher that is turned right by so many bits
unfoldable pub table_word : ℕ → ℕ → ℕ
table_word turn x = rotate_right w32 (mixed_word (sub_byte x)) turn

-- the row of x in the table of the inverse cipher that is turned right by so many bits
unfoldable pub inverse_table_word : ℕ → ℕ → ℕ
inverse_table_word turn x = rotate_right w32 (inv_mixed_word (inv_sub_byte x)) turn

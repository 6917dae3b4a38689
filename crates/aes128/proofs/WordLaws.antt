-- Words by their bytes.
use Rattle.std.proofs.Common.{◌≡◌, ℕ, ◌+◌, ◌-◌, ◌*◌, ◌/◌, ◌%◌, ◌^◌, ◌<◌, List, [], ◌∷◌, map, get_or, bit_xor, refl, arith, ◌∙◌, sym, ap}
use Rattle.std.proofs.lemmas.Nat.{xor_shr, xor_mod}
use Rattle.std.specs.Int.{w32, rotate_right, from_be_bytes}
use Rattle.std.specs.Int.Bits.{or_shifted_r, xor_comm, xor_assoc, or_self}
use Rattle.std.proofs.Math.ListN.{get_or-map}
use Rattle.aes128.specs.Bytes.{AreBytes}
use Rattle.aes128.specs.Field.{times}
use Rattle.aes128.specs.Sbox.{sub_byte, inv_sub_byte}
use Rattle.aes128.specs.Cipher.{combined}
use Rattle.aes128.specs.Words.{word, row_byte, state_of_words, mixed_word, inv_mixed_word, table_word, inverse_table_word}
use Rattle.aes128.proofs.Linear.{times-lt, times_1}
use Rattle.aes128.proofs.States.{state_bytes}
use Rattle.aes128.proofs.Steps.{sub_byte-lt, inv_sub_byte-lt, sub_back}

-- ---- the bytes of a word

pub row_byte-lt : (w r : ℕ) → row_byte w r < 256
unfolding row_byte
row_byte-lt w r = omega arith

-- the bytes of a sum are the sums of the bytes
pub row_byte_xor : (x y r : ℕ) → row_byte (bit_xor x y) r ≡ bit_xor (row_byte x r) (row_byte y r)
unfolding row_byte
row_byte_xor x y r = rw (xor_shr x y (24 - 8 * r)) (xor_mod (x / 2 ^ (24 - 8 * r)) (y / 2 ^ (24 - 8 * r)) 8)

pub word_row_0 : (a b c d : ℕ) → a < 256 → b < 256 → c < 256 → d < 256 → row_byte (word a b c d) 0 ≡ a
unfolding row_byte word
word_row_0 a b c d pa pb pc pd = omega arith

pub word_row_1 : (a b c d : ℕ) → a < 256 → b < 256 → c < 256 → d < 256 → row_byte (word a b c d) 1 ≡ b
unfolding row_byte word
word_row_1 a b c d pa pb pc pd = omega arith

pub word_row_2 : (a b c d : ℕ) → a < 256 → b < 256 → c < 256 → d < 256 → row_byte (word a b c d) 2 ≡ c
unfolding row_byte word
word_row_2 a b c d pa pb pc pd = omega arith

pub word_row_3 : (a b c d : ℕ) → a < 256 → b < 256 → c < 256 → d < 256 → row_byte (word a b c d) 3 ≡ d
unfolding row_byte word
word_row_3 a b c d pa pb pc pd = omega arith

pub joined_bytes : (a b c d : ℕ) → from_be_bytes w32 (a ∷ b ∷ c ∷ d ∷ []) ≡ word a b c d
unfolding word
joined_bytes a b c d = omega arith

-- the columns of words are bytes
pub words_bytes : (words : List ℕ) → AreBytes (state_of_words words)
unfolding state_of_words
words_bytes words = state_bytes (λ r c. row_byte (get_or words c 0) r) (λ r c. row_byte-lt (get_or words c 0) r)

-- the S-box and then its inverse, at a byte of a word
pub row_sub_back : (w r : ℕ) → inv_sub_byte (sub_byte (row_byte w r)) ≡ row_byte w r
row_sub_back w r = sub_back (row_byte w r) (row_byte-lt w r)

-- an item of a list of words, by the states that they are
pub item_state : (words : List (List ℕ)) (states : List (List ℕ)) (n : ℕ) (d : List ℕ)
    → map state_of_words words ≡ states → state_of_words (get_or words n d) ≡ get_or states n (state_of_words d)
item_state words states n d is = sym (get_or-map state_of_words words n d) ∙ ap (λ l. get_or l n (state_of_words d)) is

-- ---- turned words

rotated_0 : (n : ℕ) → n < 2 ^ 32 → rotate_right w32 n 0 ≡ n
rotated_0 n fits =
    let all : n * 1 % 2 ^ 32 ≡ n = omega arith in
    let same : n / 1 ≡ n = omega arith in
    rw (all, same) (or_self n)

turned_0 : (a b c d : ℕ) → a < 256 → b < 256 → c < 256 → d < 256 → rotate_right w32 (word a b c d) 0 ≡ word a b c d
unfolding word
turned_0 a b c d pa pb pc pd = rotated_0 (((a * 256 + b) * 256 + c) * 256 + d) (omega arith)

turned_8 : (a b c d : ℕ) → a < 256 → b < 256 → c < 256 → d < 256 → rotate_right w32 (word a b c d) 8 ≡ word d a b c
unfolding word
turned_8 a b c d pa pb pc pd =
    let low : (((a * 256 + b) * 256 + c) * 256 + d) / 2 ^ 8 ≡ (a * 256 + b) * 256 + c = omega arith in
    let high : (((a * 256 + b) * 256 + c) * 256 + d) * 2 ^ 24 % 2 ^ 32 ≡ d * 2 ^ 24 = omega arith in
    let fits : (a * 256 + b) * 256 + c < 2 ^ 24 = omega arith in
    rw (low, high) (or_shifted_r d 24 ((a * 256 + b) * 256 + c) fits ∙ omega arith)

turned_16 : (a b c d : ℕ) → a < 256 → b < 256 → c < 256 → d < 256 → rotate_right w32 (word a b c d) 16 ≡ word c d a b
unfolding word
turned_16 a b c d pa pb pc pd =
    let low : (((a * 256 + b) * 256 + c) * 256 + d) / 2 ^ 16 ≡ a * 256 + b = omega arith in
    let high : (((a * 256 + b) * 256 + c) * 256 + d) * 2 ^ 16 % 2 ^ 32 ≡ (c * 256 + d) * 2 ^ 16 = omega arith in
    let fits : a * 256 + b < 2 ^ 16 = omega arith in
    rw (low, high) (or_shifted_r (c * 256 + d) 16 (a * 256 + b) fits ∙ omega arith)

turned_24 : (a b c d : ℕ) → a < 256 → b < 256 → c < 256 → d < 256 → rotate_right w32 (word a b c d) 24 ≡ word b c d a
unfolding word
turned_24 a b c d pa pb pc pd =
    let low : (((a * 256 + b) * 256 + c) * 256 + d) / 2 ^ 24 ≡ a = omega arith in
    let high : (((a * 256 + b) * 256 + c) * 256 + d) * 2 ^ 8 % 2 ^ 32 ≡ ((b * 256 + c) * 256 + d) * 2 ^ 8 = omega arith in
    let fits : a < 2 ^ 8 = omega arith in
    rw (low, high) (or_shifted_r ((b * 256 + c) * 256 + d) 8 a fits ∙ omega arith)

-- ---- rows of a table, for the matrix of the row k0 k1 k2 k3

-- p times the first column, and the same one, two and three rows further down
abbrev pub column_0 : ℕ → ℕ → ℕ → ℕ → ℕ → ℕ
column_0 k0 k1 k2 k3 p = word (times k0 p) (times k3 p) (times k2 p) (times k1 p)

abbrev pub column_8 : ℕ → ℕ → ℕ → ℕ → ℕ → ℕ
column_8 k0 k1 k2 k3 p = word (times k1 p) (times k0 p) (times k3 p) (times k2 p)

abbrev pub column_16 : ℕ → ℕ → ℕ → ℕ → ℕ → ℕ
column_16 k0 k1 k2 k3 p = word (times k2 p) (times k1 p) (times k0 p) (times k3 p)

abbrev pub column_24 : ℕ → ℕ → ℕ → ℕ → ℕ → ℕ
column_24 k0 k1 k2 k3 p = word (times k3 p) (times k2 p) (times k1 p) (times k0 p)

columns_turned_0 : (k0 k1 k2 k3 p : ℕ) → p < 256 → rotate_right w32 (column_0 k0 k1 k2 k3 p) 0 ≡ column_0 k0 k1 k2 k3 p
columns_turned_0 k0 k1 k2 k3 p lt = turned_0 (times k0 p) (times k3 p) (times k2 p) (times k1 p) (times-lt k0 p lt) (times-lt k3 p lt) (times-lt k2 p lt) (times-lt k1 p lt)

columns_turned_8 : (k0 k1 k2 k3 p : ℕ) → p < 256 → rotate_right w32 (column_0 k0 k1 k2 k3 p) 8 ≡ column_8 k0 k1 k2 k3 p
columns_turned_8 k0 k1 k2 k3 p lt = turned_8 (times k0 p) (times k3 p) (times k2 p) (times k1 p) (times-lt k0 p lt) (times-lt k3 p lt) (times-lt k2 p lt) (times-lt k1 p lt)

columns_turned_16 : (k0 k1 k2 k3 p : ℕ) → p < 256 → rotate_right w32 (column_0 k0 k1 k2 k3 p) 16 ≡ column_16 k0 k1 k2 k3 p
columns_turned_16 k0 k1 k2 k3 p lt = turned_16 (times k0 p) (times k3 p) (times k2 p) (times k1 p) (times-lt k0 p lt) (times-lt k3 p lt) (times-lt k2 p lt) (times-lt k1 p lt)

columns_turned_24 : (k0 k1 k2 k3 p : ℕ) → p < 256 → rotate_right w32 (column_0 k0 k1 k2 k3 p) 24 ≡ column_24 k0 k1 k2 k3 p
columns_turned_24 k0 k1 k2 k3 p lt = turned_24 (times k0 p) (times k3 p) (times k2 p) (times k1 p) (times-lt k0 p lt) (times-lt k3 p lt) (times-lt k2 p lt) (times-lt k1 p lt)

-- a row of the first table is a column of the matrix of MixColumns
mixed_column_0 : (s : ℕ) → mixed_word s ≡ column_0 2 3 1 1 s
unfolding mixed_word
mixed_column_0 s = rw (times_1 s) refl

pub table_row_0 : (x : ℕ) → table_word 0 x ≡ column_0 2 3 1 1 (sub_byte x)
unfolding table_word
table_row_0 x = rw (mixed_column_0 (sub_byte x)) (columns_turned_0 2 3 1 1 (sub_byte x) (sub_byte-lt x))

pub table_unturned : (x : ℕ) → table_word 0 x ≡ mixed_word (sub_byte x)
table_unturned x = table_row_0 x ∙ sym (mixed_column_0 (sub_byte x))

pub table_row_8 : (x : ℕ) → table_word 8 x ≡ column_8 2 3 1 1 (sub_byte x)
unfolding table_word
table_row_8 x = rw (mixed_column_0 (sub_byte x)) (columns_turned_8 2 3 1 1 (sub_byte x) (sub_byte-lt x))

pub table_row_16 : (x : ℕ) → table_word 16 x ≡ column_16 2 3 1 1 (sub_byte x)
unfolding table_word
table_row_16 x = rw (mixed_column_0 (sub_byte x)) (columns_turned_16 2 3 1 1 (sub_byte x) (sub_byte-lt x))

pub table_row_24 : (x : ℕ) → table_word 24 x ≡ column_24 2 3 1 1 (sub_byte x)
unfolding table_word
table_row_24 x = rw (mixed_column_0 (sub_byte x)) (columns_turned_24 2 3 1 1 (sub_byte x) (sub_byte-lt x))

-- a row of the inverse table is a column of the matrix of InvMixColumns
pub inverse_row_0 : (x : ℕ) → x < 256 → inverse_table_word 0 x ≡ column_0 14 11 13 9 (inv_sub_byte x)
unfolding inverse_table_word inv_mixed_word
inverse_row_0 x lt = columns_turned_0 14 11 13 9 (inv_sub_byte x) (inv_sub_byte-lt x lt)

pub inverse_unturned : (x : ℕ) → x < 256 → inverse_table_word 0 x ≡ inv_mixed_word (inv_sub_byte x)
unfolding inv_mixed_word
inverse_unturned x lt = inverse_row_0 x lt

pub inverse_row_8 : (x : ℕ) → x < 256 → inverse_table_word 8 x ≡ column_8 14 11 13 9 (inv_sub_byte x)
unfolding inverse_table_word inv_mixed_word
inverse_row_8 x lt = columns_turned_8 14 11 13 9 (inv_sub_byte x) (inv_sub_byte-lt x lt)

pub inverse_row_16 : (x : ℕ) → x < 256 → inverse_table_word 16 x ≡ column_16 14 11 13 9 (inv_sub_byte x)
unfolding inverse_table_word inv_mixed_word
inverse_row_16 x lt = columns_turned_16 14 11 13 9 (inv_sub_byte x) (inv_sub_byte-lt x lt)

pub inverse_row_24 : (x : ℕ) → x < 256 → inverse_table_word 24 x ≡ column_24 14 11 13 9 (inv_sub_byte x)
unfolding inverse_table_word inv_mixed_word
inverse_row_24 x lt = columns_turned_24 14 11 13 9 (inv_sub_byte x) (inv_sub_byte-lt x lt)

-- ---- four rows, each table one place further, make a mixed column

-- four numbers summed in pairs, begun one further
begun_further : (w x y z : ℕ) → bit_xor (bit_xor w x) (bit_xor y z) ≡ bit_xor (bit_xor x y) (bit_xor z w)
begun_further w x y z =
    xor_assoc w x (bit_xor y z) ∙ xor_comm w (bit_xor x (bit_xor y z)) ∙ ap (λ n. bit_xor n w) (sym (xor_assoc x y z))
    ∙ xor_assoc (bit_xor x y) z w

abbrev pub summed : ℕ → ℕ → ℕ → ℕ → ℕ → ℕ → ℕ → ℕ → ℕ
summed k0 k1 k2 k3 p q s t =
    bit_xor (bit_xor (column_0 k0 k1 k2 k3 p) (column_8 k0 k1 k2 k3 q)) (bit_xor (column_16 k0 k1 k2 k3 s) (column_24 k0 k1 k2 k3 t))

summed_rows : (w x y z r : ℕ) → row_byte (bit_xor (bit_xor w x) (bit_xor y z)) r
    ≡ bit_xor (bit_xor (row_byte w r) (row_byte x r)) (bit_xor (row_byte y r) (row_byte z r))
summed_rows w x y z r = rw (row_byte_xor (bit_xor w x) (bit_xor y z) r, row_byte_xor w x r, row_byte_xor y z r) refl

pub summed_0 : (k0 k1 k2 k3 p q s t : ℕ) → p < 256 → q < 256 → s < 256 → t < 256
    → row_byte (summed k0 k1 k2 k3 p q s t) 0 ≡ combined k0 k1 k2 k3 p q s t
summed_0 k0 k1 k2 k3 p q s t pp pq ps pt =
    summed_rows (column_0 k0 k1 k2 k3 p) (column_8 k0 k1 k2 k3 q) (column_16 k0 k1 k2 k3 s) (column_24 k0 k1 k2 k3 t) 0
    ∙ rw (
      word_row_0 (times k0 p) (times k3 p) (times k2 p) (times k1 p) (times-lt k0 p pp) (times-lt k3 p pp) (times-lt k2 p pp) (times-lt k1 p pp),
      word_row_0 (times k1 q) (times k0 q) (times k3 q) (times k2 q) (times-lt k1 q pq) (times-lt k0 q pq) (times-lt k3 q pq) (times-lt k2 q pq),
      word_row_0 (times k2 s) (times k1 s) (times k0 s) (times k3 s) (times-lt k2 s ps) (times-lt k1 s ps) (times-lt k0 s ps) (times-lt k3 s ps),
      word_row_0 (times k3 t) (times k2 t) (times k1 t) (times k0 t) (times-lt k3 t pt) (times-lt k2 t pt) (times-lt k1 t pt) (times-lt k0 t pt),
    ) refl

pub summed_1 : (k0 k1 k2 k3 p q s t : ℕ) → p < 256 → q < 256 → s < 256 → t < 256
    → row_byte (summed k0 k1 k2 k3 p q s t) 1 ≡ combined k0 k1 k2 k3 q s t p
summed_1 k0 k1 k2 k3 p q s t pp pq ps pt =
    summed_rows (column_0 k0 k1 k2 k3 p) (column_8 k0 k1 k2 k3 q) (column_16 k0 k1 k2 k3 s) (column_24 k0 k1 k2 k3 t) 1
    ∙ rw (
      word_row_1 (times k0 p) (times k3 p) (times k2 p) (times k1 p) (times-lt k0 p pp) (times-lt k3 p pp) (times-lt k2 p pp) (times-lt k1 p pp),
      word_row_1 (times k1 q) (times k0 q) (times k3 q) (times k2 q) (times-lt k1 q pq) (times-lt k0 q pq) (times-lt k3 q pq) (times-lt k2 q pq),
      word_row_1 (times k2 s) (times k1 s) (times k0 s) (times k3 s) (times-lt k2 s ps) (times-lt k1 s ps) (times-lt k0 s ps) (times-lt k3 s ps),
      word_row_1 (times k3 t) (times k2 t) (times k1 t) (times k0 t) (times-lt k3 t pt) (times-lt k2 t pt) (times-lt k1 t pt) (times-lt k0 t pt),
    ) (begun_further (times k3 p) (times k0 q) (times k1 s) (times k2 t))

pub summed_2 : (k0 k1 k2 k3 p q s t : ℕ) → p < 256 → q < 256 → s < 256 → t < 256
    → row_byte (summed k0 k1 k2 k3 p q s t) 2 ≡ combined k0 k1 k2 k3 s t p q
summed_2 k0 k1 k2 k3 p q s t pp pq ps pt =
    summed_rows (column_0 k0 k1 k2 k3 p) (column_8 k0 k1 k2 k3 q) (column_16 k0 k1 k2 k3 s) (column_24 k0 k1 k2 k3 t) 2
    ∙ rw (
      word_row_2 (times k0 p) (times k3 p) (times k2 p) (times k1 p) (times-lt k0 p pp) (times-lt k3 p pp) (times-lt k2 p pp) (times-lt k1 p pp),
      word_row_2 (times k1 q) (times k0 q) (times k3 q) (times k2 q) (times-lt k1 q pq) (times-lt k0 q pq) (times-lt k3 q pq) (times-lt k2 q pq),
      word_row_2 (times k2 s) (times k1 s) (times k0 s) (times k3 s) (times-lt k2 s ps) (times-lt k1 s ps) (times-lt k0 s ps) (times-lt k3 s ps),
      word_row_2 (times k3 t) (times k2 t) (times k1 t) (times k0 t) (times-lt k3 t pt) (times-lt k2 t pt) (times-lt k1 t pt) (times-lt k0 t pt),
    ) (xor_comm (bit_xor (times k2 p) (times k3 q)) (bit_xor (times k0 s) (times k1 t)))

pub summed_3 : (k0 k1 k2 k3 p q s t : ℕ) → p < 256 → q < 256 → s < 256 → t < 256
    → row_byte (summed k0 k1 k2 k3 p q s t) 3 ≡ combined k0 k1 k2 k3 t p q s
summed_3 k0 k1 k2 k3 p q s t pp pq ps pt =
    summed_rows (column_0 k0 k1 k2 k3 p) (column_8 k0 k1 k2 k3 q) (column_16 k0 k1 k2 k3 s) (column_24 k0 k1 k2 k3 t) 3
    ∙ rw (
      word_row_3 (times k0 p) (times k3 p) (times k2 p) (times k1 p) (times-lt k0 p pp) (times-lt k3 p pp) (times-lt k2 p pp) (times-lt k1 p pp),
      word_row_3 (times k1 q) (times k0 q) (times k3 q) (times k2 q) (times-lt k1 q pq) (times-lt k0 q pq) (times-lt k3 q pq) (times-lt k2 q pq),
      word_row_3 (times k2 s) (times k1 s) (times k0 s) (times k3 s) (times-lt k2 s ps) (times-lt k1 s ps) (times-lt k0 s ps) (times-lt k3 s ps),
      word_row_3 (times k3 t) (times k2 t) (times k1 t) (times k0 t) (times-lt k3 t pt) (times-lt k2 t pt) (times-lt k1 t pt) (times-lt k0 t pt),
    ) (sym (begun_further (times k0 t) (times k1 p) (times k2 q) (times k3 s)))

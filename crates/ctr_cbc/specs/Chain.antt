-- Cipher block chaining (SP 800-38A, section 6.2).
use Rattle.std.specs.Prelude.{ℕ, zero, suc, List}
use Rattle.aes128.specs.Cipher.{cipher}
use Rattle.aes128.specs.InverseCipher.{inv_cipher}
use Rattle.ctr_cbc.specs.Blocks.{block, exclusive_or}

-- what block r is chained to: the ciphertext block before it, or the IV
abbrev pub block_before : List ℕ → List ℕ → ℕ → List ℕ
block_before iv ciphertext zero = iv
block_before iv ciphertext (suc r) = block ciphertext r

-- block r of the plaintext
abbrev pub opened_block : List ℕ → List ℕ → List ℕ → ℕ → List ℕ
opened_block key iv ciphertext r = exclusive_or (inv_cipher key (block ciphertext r)) (block_before iv ciphertext r)

-- block r of the ciphertext, from the plaintext and the ciphertext before it
abbrev pub sealed_block : List ℕ → List ℕ → List ℕ → List ℕ → ℕ → List ℕ
sealed_block key iv plaintext ciphertext r = cipher key (exclusive_or (block plaintext r) (block_before iv ciphertext r))

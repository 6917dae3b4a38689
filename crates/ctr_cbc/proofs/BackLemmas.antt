-- Opening takes sealing back.
use Rattle.std.proofs.Common.{◌≡◌, ℕ, zero, suc, ◌+◌, ◌*◌, ◌<◌, ◌≤◌, List, length, get_or, drop, sym, ap, ◌∙◌, arith, inl, inr, length-take, length-drop}
use Rattle.std.proofs.lemmas.Bool.{cases_lt}
use Rattle.std.proofs.lemmas.List.{get_or_past}
use Rattle.std.proofs.lemmas.Grind.{same_number_lists}
use Rattle.std.proofs.lemmas.Nat.{xor_lt}
use Rattle.aes128.specs.Bytes.{AreBytes}
use Rattle.aes128.specs.Cipher.{cipher}
use Rattle.aes128.specs.InverseCipher.{inv_cipher}
use Rattle.aes128.proofs.Steps.{xor_twice}
use Rattle.ctr_cbc.specs.Blocks.{block, exclusive_or}
use Rattle.ctr_cbc.specs.Chain.{block_before, opened_block, sealed_block}
use Rattle.ctr_cbc.proofs.BlockLemmas.{byte_of_block, byte_of_xor, length_of_xor}

-- a list of 16 whose items are bytes
sixteen_bytes : (xs : List ℕ) → length xs ≤ 16 → ((i : ℕ) → i < 16 → get_or xs i 0 < 256) → AreBytes xs
sixteen_bytes xs len low = record {
  each = λ i. elim (cases_lt i 16) [
    | inl lt ↦ low i lt
    | inr le ↦ rw (get_or_past xs i 0 (omega arith)) (omega arith)
  ];
}

xor_bytes : (a b : List ℕ) → AreBytes a → AreBytes b → AreBytes (exclusive_or a b)
xor_bytes a b fa fb = sixteen_bytes (exclusive_or a b) (omega (arith, length_of_xor a b)) (λ i lt. rw (byte_of_xor a b i lt) (xor_lt 8 _ _ (fa.each i) (fb.each i)))

block_bytes : (xs : List ℕ) (r : ℕ) → AreBytes xs → AreBytes (block xs r)
block_bytes xs r fits = sixteen_bytes (block xs r) (omega (arith, length-take 16 (drop (r * 16) xs))) (λ i lt. rw (byte_of_block xs r i lt) (fits.each (r * 16 + i)))

before_bytes : (iv xs : List ℕ) (r : ℕ) → AreBytes iv → AreBytes xs → AreBytes (block_before iv xs r)
before_bytes iv xs zero fi fx = fi
before_bytes iv xs (suc r) fi fx = block_bytes xs r fx

xor_back : (a b : List ℕ) → length a ≡ 16 → exclusive_or (exclusive_or a b) b ≡ a
xor_back a b len =
    same_number_lists (exclusive_or (exclusive_or a b) b) a (length_of_xor (exclusive_or a b) b ∙ sym len)
    (λ k lt. let low : k < 16 = omega (arith, length_of_xor (exclusive_or a b) b) in
    byte_of_xor (exclusive_or a b) b k low ∙ rw (byte_of_xor a b k low) (xor_twice (get_or a k 0) (get_or b k 0)))

pub opened_again : ((key block : List ℕ) → length block ≡ 16 → AreBytes key → AreBytes block → inv_cipher key (cipher key block) ≡ block)
    → (key iv plaintext ciphertext : List ℕ) (r : ℕ) → AreBytes key → AreBytes iv → AreBytes plaintext → AreBytes ciphertext
    → r * 16 + 16 ≤ length plaintext → block ciphertext r ≡ sealed_block key iv plaintext ciphertext r
    → opened_block key iv ciphertext r ≡ block plaintext r
opened_again back key iv plaintext ciphertext r fk fi fp fc le is =
    let before = block_before iv ciphertext r in
    let sum = exclusive_or (block plaintext r) before in
    let len : length (block plaintext r) ≡ 16 = omega (arith, length-take 16 (drop (r * 16) plaintext), length-drop (r * 16) plaintext) in
    let sum_bytes = xor_bytes (block plaintext r) before (block_bytes plaintext r fp) (before_bytes iv ciphertext r fi fc) in
    let deciphered : inv_cipher key (block ciphertext r) ≡ sum = ap (λ (xs : List ℕ). inv_cipher key xs) is ∙ back key sum (length_of_xor (block plaintext r) before) fk sum_bytes in
    ap (λ (xs : List ℕ). exclusive_or xs before) deciphered ∙ xor_back (block plaintext r) before len

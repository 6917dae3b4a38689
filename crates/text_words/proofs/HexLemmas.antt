-- Which words are pairs of hexadecimal digits.
use Rattle.std.proofs.Common.{◌≡◌, ◌%◌, ℕ, List, length, Bool, true, false, refl, sym, ◌∙◌}
use Rattle.std.specs.Prelude.{is_some, Result, Ok, Err}
use Rattle.std.specs.List.{list_all}
use Rattle.std.specs.Result.{result_ok}
use Rattle.std.proofs.lemmas.List.Sums.{AllPass-from_list_all, list_all-from_AllPass}
use Rattle.hex.specs.Hex.{decode_of, is_hex_digit}
use Rattle.hex.specs.declared.error.FromHexError.{FromHexError}
use Rattle.hex.proofs.HexLemmas.{decode_of-odd, decode_of-ok, decode_of-digits}
use Rattle.text_words.specs.Hexadecimal.{hex_bytes}

pub odd_word : (s : List ℕ) → length s % 2 ≡ 1 → is_some (hex_bytes s) ≡ false
unfolding hex_bytes
odd_word s odd = rw (decode_of-odd s odd) refl

-- digits are read
digits_read : (s : List ℕ) (e : FromHexError) → length s % 2 ≡ 0 → decode_of s ≡ Err e → (b : Bool) → list_all is_hex_digit s ≡ b → b ≡ false
digits_read s e even refused true all =
    let read = decode_of-digits s even (AllPass-from_list_all is_hex_digit s all) in
    absurd (cc (sym refused ∙ read.1))
digits_read s e even refused false all = refl

by_reading : (s : List ℕ) → length s % 2 ≡ 0 → (r : Result (List ℕ) FromHexError) → decode_of s ≡ r → list_all is_hex_digit s ≡ is_some (result_ok r)
by_reading s even (Ok bytes) e = list_all-from_AllPass is_hex_digit s (decode_of-ok s bytes e).1
by_reading s even (Err fault) e = digits_read s fault even e (list_all is_hex_digit s) refl

pub even_word : (s : List ℕ) → length s % 2 ≡ 0 → is_some (hex_bytes s) ≡ list_all is_hex_digit s
unfolding hex_bytes
even_word s even = sym (by_reading s even (decode_of s) refl)

-- The words of a row.
use Rattle.std.specs.Prelude.{ℕ, if◌then◌else◌, List, [], ◌∷◌, codes, Option, Some, None, option_and_then, bytes_eq, Bool}
use Rattle.std.specs.List.{list_any}
use Rattle.std.specs.Option.{option_map}
use Rattle.std.specs.Result.{result_ok}
use Rattle.hex.specs.Hex.{decode_sized}
use Rattle.text_words.specs.Fronts.{is_nothing}
use Rattle.text_words.specs.Pieces.{cut}
use Rattle.text_words.specs.Numbers.{number_up_to}
use Rattle.text_words.specs.Hexadecimal.{hex_bytes}
use Rattle.eme_types.specs.declared.limits.TheConstants.{MAX_KID_BYTES, MAX_MOMENT}
use Rattle.clearkey_json.specs.Base64url.{of_len}

-- one space parts each word from the next
abbrev pub words_of : List ℕ → List (List ℕ)
words_of line = cut 32 line

-- a word without a byte
abbrev pub has_empty_word : List ℕ → Bool
has_empty_word line = list_any is_nothing (words_of line)

-- what stands behind the word key: a key id, a key, a start and an expiration
pub record RowText : Type 0 where
  pub kid : List ℕ
  pub key : List ℕ
  pub from : List ℕ
  pub expires : List ℕ

-- five words, of which the first is key
abbrev pub row_text : List (List ℕ) → Option RowText
row_text (verb ∷ kid ∷ key ∷ from ∷ expires ∷ []) = if bytes_eq verb (codes "key") then Some (record { kid = kid; key = key; from = from; expires = expires }) else None
row_text _ = None

-- a key id is 1 to 512 bytes, in hexadecimal
abbrev pub kid_in : List ℕ → Option (List ℕ)
kid_in word = option_and_then (of_len 1 MAX_KID_BYTES) (hex_bytes word)

-- a key of AES-128 is 16 bytes (FIPS 197 section 3.1), in hexadecimal
unfoldable pub key_in : List ℕ → Option (List ℕ)
key_in word = result_ok (decode_sized word 16)

-- milliseconds from 0 to 2^53
abbrev pub moment_in : List ℕ → Option ℕ
moment_in word = number_up_to MAX_MOMENT word

-- a moment, or a dash for none
abbrev pub end_in : List ℕ → Option (Option ℕ)
end_in word = if bytes_eq word (codes "-") then Some None else option_map (λ moment. Some moment) (moment_in word)

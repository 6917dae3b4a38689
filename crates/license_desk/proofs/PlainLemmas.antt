-- Base64url texts have no byte that JSON escapes (RFC 8259 section 7).
use Rattle.std.proofs.Common.{◌≡◌, ℕ, suc, ◌+◌, ◌*◌, ◌/◌, ◌%◌, ◌<◌, ◌≤◌, Bool, true, List, [], ◌∷◌, ◌++◌, refl, sym, ap, ap₂, ◌∙◌, slice_index, length, Some, Result, Ok, Err, IfOk, nat_le, not, ◌&&◌, ◌==◌, append-nil, arith}
use Rattle.std.specs.List.{list_all}
use Rattle.std.specs.Result.{result_ok}
use Rattle.std.proofs.lemmas.Bool.{and_parts, leb-true, le-leb, eqb-false, not-true}
use Rattle.std.proofs.lemmas.List.Sums.{AllPass-from_list_all}
use Rattle.json.specs.Print.{escape, escape_byte}
use Rattle.json.proofs.Printed.Strings.{escape_byte_plain}
use Rattle.base64.specs.Rfc4648.{encode_symbols, encode_one, encode_two, encode_group}
use Rattle.base64.specs.GeneralPurpose.{IsBytes, engine_symbols, decoded_of}
use Rattle.base64.proofs.EngineFacts.{decode_of-encode_of}
use Rattle.base64.specs.Engines.{url_safe_no_pad}
use Rattle.eme_types.specs.declared.limits.TheConstants.{MAX_KID_BYTES}
use Rattle.clearkey_json.specs.Base64url.{base64url, kid_of, key_of}
use Rattle.license_desk.specs.ReadBack.{IsEncoded}

-- the alphabet (RFC 4648 section 5)
abbrev symbols : List ℕ
symbols = engine_symbols url_safe_no_pad

abbrev is_plain : ℕ → Bool
is_plain x = nat_le 32 x && (not (x == 34) && not (x == 92))

table_plain : list_all is_plain symbols ≡ true
table_plain = refl

symbol_plain : (i : ℕ) → i < 64 → escape_byte (slice_index symbols i) ≡ slice_index symbols i ∷ []
symbol_plain i lt =
    let all = and_parts _ _ (AllPass-from_list_all is_plain symbols table_plain i 0 lt) in
    let quotes = and_parts _ _ all.1 in
    escape_byte_plain (slice_index symbols i) (eqb-false _ _ (not-true _ quotes.0)) (eqb-false _ _ (not-true _ quotes.1)) (leb-true _ _ all.0)

one_more : (x : ℕ) (xs : List ℕ) → escape_byte x ≡ x ∷ [] → escape xs ≡ xs → escape (x ∷ xs) ≡ x ∷ xs
one_more x xs here rest = ap₂ (λ (a b : List ℕ). a ++ b) here rest

-- the symbol of six bits, in front of further ones
next_symbol : (i : ℕ) (rest : List ℕ) → i < 64 → escape rest ≡ rest → escape (slice_index symbols i ∷ rest) ≡ slice_index symbols i ∷ rest
next_symbol i rest lt more = one_more (slice_index symbols i) rest (symbol_plain i lt) more

plain_one : (a : ℕ) → a < 256 → escape (encode_one symbols a) ≡ encode_one symbols a
plain_one a a_byte = next_symbol (a / 4) _ (omega arith) (next_symbol (a % 4 * 16) [] (omega arith) refl)

plain_two : (a b : ℕ) → a < 256 → b < 256 → escape (encode_two symbols a b) ≡ encode_two symbols a b
plain_two a b a_byte b_byte = next_symbol (a / 4) _ (omega arith) (next_symbol (a % 4 * 16 + b / 16) _ (omega arith) (next_symbol (b % 16 * 4) [] (omega arith) refl))

plain_group : (a b c : ℕ) (rest : List ℕ) → a < 256 → b < 256 → c < 256 → escape rest ≡ rest → escape (encode_group symbols a b c ++ rest) ≡ encode_group symbols a b c ++ rest
plain_group a b c rest a_byte b_byte c_byte more =
    next_symbol (a / 4) _ (omega arith) (next_symbol (a % 4 * 16 + b / 16) _ (omega arith) (next_symbol (b % 16 * 4 + c / 64) _ (omega arith) (next_symbol (c % 64) rest (omega arith) more)))

symbols_plain : (m : List ℕ) → IsBytes m → escape (encode_symbols symbols m) ≡ encode_symbols symbols m
unfolding encode_symbols
symbols_plain [] bytes = refl
symbols_plain (a ∷ []) bytes = plain_one a (bytes 0)
symbols_plain (a ∷ b ∷ []) bytes = plain_two a b (bytes 0) (bytes 1)
symbols_plain (a ∷ b ∷ c ∷ rest) bytes = plain_group a b c _ (bytes 0) (bytes 1) (bytes 2) (symbols_plain rest (λ i. bytes (suc (suc (suc i)))))

base64url_plain : (m : List ℕ) → IsBytes m → escape (base64url m) ≡ base64url m
base64url_plain m bytes =
    let none = append-nil (encode_symbols symbols m) in
    ap escape none ∙ symbols_plain m bytes ∙ sym none

pub is_encoded : (m : List ℕ) → IsBytes m → IsEncoded m
unfolding decoded_of
is_encoded m bytes = record { read = ap result_ok (decode_of-encode_of url_safe_no_pad m refl bytes); plain = base64url_plain m bytes }

-- the text of a key id, and that of a key
pub kid_back : (kid : List ℕ) → IsEncoded kid → 1 ≤ length kid → length kid ≤ MAX_KID_BYTES → kid_of (base64url kid) ≡ Some kid
unfolding kid_of
kid_back kid is some few = rw (is.read, le-leb 1 (length kid) some, le-leb (length kid) MAX_KID_BYTES few) refl

key_back : (key : List ℕ) → IsEncoded key → length key ≡ 16 → key_of (base64url key) ≡ Some key
unfolding key_of
key_back key is size = rw (is.read, size) refl

-- what holds whatever is answered
pub if_ok : {A E : Type 0} (r : Result A E) (P : Type 0) → P → IfOk r (λ x. P)
if_ok (Ok x) P p = p
if_ok (Err e) P p = tt

pub key_encoded : {A E : Type 0} (key : List ℕ) → length key ≡ 16 → (r : Result A E) → IfOk r (λ x. IsEncoded key) → IfOk r (λ x. key_of (base64url key) ≡ Some key)
key_encoded key size (Ok x) is = key_back key is size
key_encoded key size (Err e) is = tt

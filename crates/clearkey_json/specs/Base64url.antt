-- Bytes as base64url texts without padding (RFC 4648 section 5; Encrypted Media Extensions section 9.1.6).
use Rattle.std.specs.Prelude.{ℕ, List, length, ◌&&◌, nat_le, Option, Some, None, option_and_then, if◌then◌else◌}
use Rattle.base64.specs.Engines.{url_safe_no_pad}
use Rattle.eme_types.specs.declared.limits.TheConstants.{MAX_KID_BYTES}
use Rattle.base64.specs.GeneralPurpose.{encode_of, decoded_of}

-- the text of the bytes
abbrev pub base64url : List ℕ → List ℕ
base64url bytes = encode_of url_safe_no_pad bytes

-- the bytes of a text; bits left over are 0, so each byte list has one text
abbrev pub bytes_of : List ℕ → Option (List ℕ)
bytes_of text = decoded_of url_safe_no_pad text

-- bytes, where there are least to most of them
abbrev pub of_len : ℕ → ℕ → List ℕ → Option (List ℕ)
of_len least most bytes = if nat_le least (length bytes) && nat_le (length bytes) most then Some bytes else None

-- a key id is 1 to 512 bytes
unfoldable pub kid_of : List ℕ → Option (List ℕ)
kid_of text = option_and_then (of_len 1 MAX_KID_BYTES) (bytes_of text)

-- a key of AES-128 is 16 bytes (FIPS 197 section 3.1)
unfoldable pub key_of : List ℕ → Option (List ℕ)
key_of text = option_and_then (of_len 16 16) (bytes_of text)

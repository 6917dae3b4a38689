-- Texts that JSON and base64url read back.
use Rattle.std.specs.Prelude.{◌≡◌, ℕ, List, Some}
use Rattle.json.specs.Print.{escape}
use Rattle.clearkey_json.specs.Base64url.{base64url, bytes_of, kid_of, key_of}
use Rattle.license_desk.specs.Rows.{Row}

-- the base64url text of the bytes is read as them, and no byte of it is escaped in JSON (RFC 8259 section 7)
pub record IsEncoded (bytes : List ℕ) : Type 0 where
  pub read : bytes_of (base64url bytes) ≡ Some bytes
  pub plain : escape (base64url bytes) ≡ base64url bytes

-- the texts of a row's key id and key are read as them
pub record IsReadBack (row : Row) : Type 0 where
  pub kid : kid_of (base64url row.0) ≡ Some row.0
  pub key : key_of (base64url row.1.key.bytes) ≡ Some row.1.key.bytes
  pub plain_kid : escape (base64url row.0) ≡ base64url row.0
  pub plain_key : escape (base64url row.1.key.bytes) ≡ base64url row.1.key.bytes

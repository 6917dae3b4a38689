-- The licence of Clear Key: a JSON Web Key Set (Encrypted Media Extensions section 9.1.4, RFC 7517 section 5).
use Rattle.std.specs.Prelude.{ℕ, List, [], ◌∷◌, length, Bool, true, ◌&&◌, nat_le, Option, Some, None, is_some, option_and_then, Result, Ok, Err, ok_or, codes, bytes_eq, if◌then◌else◌}
use Rattle.std.specs.List.{list_all}
use Rattle.std.specs.Option.{option_eq}
use Rattle.serde_json.specs.Data.{Data, Items}
use Rattle.serde_json.specs.Find.{get, as_array, as_str, as_number, as_u64}
use Rattle.eme_types.specs.FirstFault.{◌>>=◌, demanded, read_each}
use Rattle.eme_types.specs.declared.limits.TheConstants.{MAX_KEY_SET_BYTES, MAX_MOMENT}
use Rattle.eme_types.specs.declared.kid.KeyBytes.{KeyBytes}
use Rattle.clearkey_json.specs.declared.key_set.KeySet.{KeySet}
use Rattle.clearkey_json.specs.declared.key_set.KeySetFault.{KeySetFault}
use Rattle.clearkey_json.specs.declared.key_set.KeySetFault.TheVariants.{TooLong, Json, Shape, NoKeys, Kty, Kid, Key, Kind, Expires, From}
use Rattle.clearkey_json.specs.Base64url.{kid_of, key_of}
use Rattle.clearkey_json.specs.Json.{json_of, list_of, text_at}

-- the members kty, kid and k are texts
abbrev pub is_web_key : Data → Bool
is_web_key d = is_some (text_at (codes "kty") d) && is_some (text_at (codes "kid") d) && is_some (text_at (codes "k") d)

-- the items, where each is such an object
abbrev pub are_web_keys : Items → Option (List Data)
are_web_keys ds = if list_all is_web_key (list_of ds) then Some (list_of ds) else None

-- the member keys, a list of such objects (RFC 7517 section 5.1)
unfoldable pub web_keys : Data → Option (List Data)
web_keys set = option_and_then are_web_keys (option_and_then as_array (get (codes "keys") set))

-- a key id and its key, of the type oct (RFC 7517 sections 4.1 and 4.5, RFC 7518 section 6.4.1)
unfoldable pub pair_of : Data → Result (List ℕ × KeyBytes) KeySetFault
pair_of d = do
  kty ← ok_or (text_at (codes "kty") d) Shape
  kid ← ok_or (text_at (codes "kid") d) Shape
  k ← ok_or (text_at (codes "k") d) Shape
  oct ← demanded Kty (bytes_eq kty (codes "oct"))
  id ← ok_or (kid_of kid) Kid
  key ← ok_or (key_of k) Key
  Ok (id, record { bytes = key })

-- the pairs of one or more objects
abbrev pub pairs_of : List Data → Result (List (List ℕ × KeyBytes)) KeySetFault
pairs_of [] = Err NoKeys
pairs_of (d ∷ ds) = read_each pair_of (d ∷ ds)

-- the session type for which the licence is meant: none, or temporary
abbrev pub is_temporary : Option Data → Bool
is_temporary None = true
is_temporary (Some d) = option_eq bytes_eq (as_str d) (Some (codes "temporary"))

-- milliseconds from 0 to 2^53, or the fault; serde_json keeps apart whole numbers written as digits alone from 1.0, 1e3 and -0
abbrev pub in_range : KeySetFault → Option ℕ → Result (Option ℕ) KeySetFault
in_range fault None = Err fault
in_range fault (Some n) = if nat_le n MAX_MOMENT then Ok (Some n) else Err fault

-- the moment that a member says, or the fault; without the member none
abbrev pub moment_of : KeySetFault → Option Data → Result (Option ℕ) KeySetFault
moment_of fault None = Ok None
moment_of fault (Some d) = in_range fault (option_and_then as_u64 (as_number d))

-- the key set that the bytes are, or the first rule that they break
unfoldable pub key_set : List ℕ → Result KeySet KeySetFault
key_set bytes = do
  short ← demanded TooLong (nat_le (length bytes) MAX_KEY_SET_BYTES)
  set ← ok_or (json_of bytes) Json
  keys ← ok_or (web_keys set) Shape
  pairs ← pairs_of keys
  temporary ← demanded Kind (is_temporary (get (codes "type") set))
  expires ← moment_of Expires (get (codes "expires") set)
  start ← moment_of From (get (codes "from") set)
  Ok (record { keys = pairs; expires = expires; from = start })

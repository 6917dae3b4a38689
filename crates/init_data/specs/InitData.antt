-- The key ids of initialization data (Encrypted Media Extensions Initialization Data Format Registry).
use Rattle.std.specs.Prelude.{ℕ, List, [], ◌∷◌, length, not, filter, flat_map, bytes_eq, nat_le, option_and_then, Result, Ok, Err, ok_or, codes, if◌then◌else◌}
use Rattle.serde_json.specs.Data.{Data}
use Rattle.serde_json.specs.Find.{get, as_array, as_str}
use Rattle.clearkey_json.specs.Base64url.{kid_of}
use Rattle.clearkey_json.specs.Json.{json_of, list_of}
use Rattle.eme_types.specs.FirstFault.{◌>>=◌, demanded, read_each}
use Rattle.eme_types.specs.declared.limits.TheConstants.{MAX_INIT_DATA_BYTES}
use Rattle.eme_types.specs.declared.media.InitKind.{InitKind}
use Rattle.eme_types.specs.declared.media.InitKind.TheVariants.{Cenc, Keyids}
use Rattle.init_data.specs.declared.fault.InitFault.{InitFault}
use Rattle.init_data.specs.declared.fault.InitFault.TheVariants.{Invalid, NoKids}
use Rattle.init_data.specs.declared.pssh.Pssh.{Pssh}
use Rattle.init_data.specs.Pssh.{pssh_list}

-- ---- "keyids": a JSON object whose member kids is a list of key ids as base64url texts

-- the key id of a text
unfoldable pub kid_in : Data → Result (List ℕ) InitFault
kid_in d = ok_or (option_and_then kid_of (as_str d)) Invalid

-- the key ids of the object, in order
unfoldable pub keyids_of : List ℕ → Result (List (List ℕ)) InitFault
keyids_of bytes = do
  short ← demanded Invalid (nat_le (length bytes) MAX_INIT_DATA_BYTES)
  object ← ok_or (json_of bytes) Invalid
  member ← ok_or (get (codes "kids") object) Invalid
  kids ← ok_or (as_array member) Invalid
  read_each kid_in (list_of kids)

-- ---- "cenc": `pssh` boxes, of which those with the Common SystemID tell their key ids

-- 1077efec-c0b2-4d02-ace3-3c1e52e2fb4b
abbrev pub common_system : List ℕ
common_system = 0x10 ∷ 0x77 ∷ 0xef ∷ 0xec ∷ 0xc0 ∷ 0xb2 ∷ 0x4d ∷ 0x02 ∷ 0xac ∷ 0xe3 ∷ 0x3c ∷ 0x1e ∷ 0x52 ∷ 0xe2 ∷ 0xfb ∷ 0x4b ∷ []

-- the key ids of a box of that system
abbrev pub common_kids : Pssh → List (List ℕ)
common_kids p = if bytes_eq p.system common_system then p.kids else []

-- the key ids of the boxes, in order
unfoldable pub cenc_of : List ℕ → Result (List (List ℕ)) InitFault
cenc_of bytes = do
  list ← pssh_list bytes
  Ok (flat_map common_kids list)

-- ---- both

-- each id once, where it first stands
unfoldable pub first_occurrences : List (List ℕ) → List (List ℕ)
first_occurrences [] = []
first_occurrences (kid ∷ kids) = kid ∷ filter (λ other. not (bytes_eq kid other)) (first_occurrences kids)

-- the key ids of data of this type, in order
abbrev pub listed : InitKind → List ℕ → Result (List (List ℕ)) InitFault
listed Cenc bytes = cenc_of bytes
listed Keyids bytes = keyids_of bytes

-- one or more key ids, each once
abbrev pub named_kids : List (List ℕ) → Result (List (List ℕ)) InitFault
named_kids [] = Err NoKids
named_kids (kid ∷ kids) = Ok (first_occurrences (kid ∷ kids))

-- the key ids that initialization data names, each once, in order
unfoldable pub kids_of : InitKind → List ℕ → Result (List (List ℕ)) InitFault
kids_of kind bytes = do
  kids ← listed kind bytes
  named_kids kids

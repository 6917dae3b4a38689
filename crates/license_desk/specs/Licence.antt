-- The licence for rows: a key set (Encrypted Media Extensions section 9.1.4).
use Rattle.std.specs.Prelude.{◌≡◌, ℕ, ◌==◌, ◌≤◌, max, min, if◌then◌else◌, List, [], ◌∷◌, ◌++◌, map, fold, codes, decimal, Option, Some, None, unwrap_or, ⊤, Ok}
use Rattle.std.specs.List.{flat_map, All}
use Rattle.eme_types.specs.declared.kid.KeyBytes.{KeyBytes}
use Rattle.clearkey_json.specs.Base64url.{base64url}
use Rattle.clearkey_json.specs.KeySet.{key_set}
use Rattle.clearkey_json.specs.declared.key_set.KeySet.{KeySet}
use Rattle.license_desk.specs.Rows.{Row}

-- ---- what it says

-- the latest start of the rows, or 0
abbrev pub latest_start : List Row → ℕ
latest_start rows = fold (λ latest row. max latest row.1.from) 0 rows

-- the earlier of two ends, of which none is never
abbrev pub earlier : Option ℕ → Option ℕ → Option ℕ
earlier None other = other
earlier (Some a) None = Some a
earlier (Some a) (Some b) = Some (min a b)

-- the earliest expiration of the rows, where one has any
abbrev pub earliest_end : List Row → Option ℕ
earliest_end rows = fold (λ last row. earlier last row.1.expires) None rows

-- a start of 0 is left out
abbrev pub stated : ℕ → Option ℕ
stated start = if start == 0 then None else Some start

-- a row's key id and key
abbrev pub pair_in : Row → List ℕ × KeyBytes
pair_in row = (row.0, row.1.key)

-- the licence: the keys of the rows in their order, their latest start and their earliest expiration
abbrev pub licence_for : List Row → KeySet
licence_for rows = record { keys = map pair_in rows; expires = earliest_end rows; from = stated (latest_start rows) }

-- ---- its text

-- a key as a JSON Web Key (RFC 7517 section 4)
abbrev pub key_text : Row → List ℕ
key_text row = codes "{\"kty\":\"oct\",\"kid\":\"" ++ (base64url row.0 ++ (codes "\",\"k\":\"" ++ (base64url row.1.key.bytes ++ codes "\"}")))

-- a key behind another
abbrev pub further_key : Row → List ℕ
further_key row = codes "," ++ key_text row

-- the keys, joined by commas
abbrev pub keys_text : List Row → List ℕ
keys_text [] = []
keys_text (row ∷ rows) = key_text row ++ flat_map further_key rows

-- the member `from`, where there is a start
abbrev pub start_text : Option ℕ → List ℕ
start_text None = []
start_text (Some moment) = codes ",\"from\":" ++ decimal moment

-- the member `expires`, where there is an expiration
abbrev pub end_text : Option ℕ → List ℕ
end_text None = []
end_text (Some moment) = codes ",\"expires\":" ++ decimal moment

-- the members behind `keys`
abbrev pub times_text : List Row → List ℕ
times_text rows = codes "],\"type\":\"temporary\"" ++ (start_text (stated (latest_start rows)) ++ (end_text (earliest_end rows) ++ codes "}"))

-- the text of the licence for rows
unfoldable pub licence_text : List Row → List ℕ
licence_text rows = codes "{\"keys\":[" ++ (keys_text rows ++ times_text rows)

-- ---- what it keeps

-- an end is no later than another, of which none is never
abbrev pub IsNoLater : Option ℕ → Option ℕ → Type 0
IsNoLater last None = ⊤
IsNoLater None (Some other) = ⊥
IsNoLater (Some moment) (Some other) = moment ≤ other

-- a licence is usable only within the time of a row: from its start on, and up to its expiration
pub record IsWithin (licence : KeySet) (row : Row) : Type 0 where
  pub start : row.1.from ≤ unwrap_or licence.from 0
  pub expiration : IsNoLater licence.expires row.1.expires

-- a text that is read as the licence for rows, and that is usable only within the time of each
pub record IsLicenceFor (rows : List Row) (text : List ℕ) : Type 0 where
  pub accepted : key_set text ≡ Ok (licence_for rows)
  pub within : All (IsWithin (licence_for rows)) rows

-- The text of a release.
use Rattle.std.specs.Prelude.{ℕ, List, [], ◌∷◌, ◌++◌, codes}
use Rattle.std.specs.List.{flat_map}
use Rattle.clearkey_json.specs.Base64url.{base64url}

-- an id as a JSON string of its base64url text
abbrev pub quoted : List ℕ → List ℕ
quoted kid = codes "\"" ++ base64url kid ++ codes "\""

-- an id behind another
abbrev pub further : List ℕ → List ℕ
further kid = codes "," ++ quoted kid

-- the ids, joined by commas
abbrev pub listed : List (List ℕ) → List ℕ
listed [] = []
listed (kid ∷ kids) = quoted kid ++ flat_map further kids

-- the JSON object whose member kids lists these ids
abbrev pub release_text : List (List ℕ) → List ℕ
release_text kids = codes "{\"kids\":[" ++ listed kids ++ codes "]}"

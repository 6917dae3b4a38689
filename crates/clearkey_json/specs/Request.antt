-- The licence request of Clear Key (Encrypted Media Extensions section 9.1.3).
use Rattle.std.specs.Prelude.{ℕ, List, [], ◌∷◌, ◌++◌, codes}
use Rattle.std.specs.List.{flat_map}
use Rattle.clearkey_json.specs.Base64url.{base64url}

-- the text of an id behind another
abbrev pub further : List ℕ → List ℕ
further kid = codes "\",\"" ++ base64url kid

-- the texts of the ids, joined by ","
abbrev pub joined : List (List ℕ) → List ℕ
joined [] = []
joined (kid ∷ kids) = base64url kid ++ flat_map further kids

-- the request for keys of these ids
unfoldable pub request_text : List (List ℕ) → List ℕ
request_text kids = codes "{\"kids\":[\"" ++ joined kids ++ codes "\"],\"type\":\"temporary\"}"

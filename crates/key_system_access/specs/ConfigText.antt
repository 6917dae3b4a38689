-- A configuration as a JSON object without spaces (RFC 8259; Encrypted Media Extensions, MediaKeySystemConfiguration).
use Rattle.std.specs.Prelude.{ℕ, List, [], ◌∷◌, ◌++◌, codes}
use Rattle.std.specs.List.{flat_map}
use Rattle.serde_json.specs.Data.{string}
use Rattle.serde_json.specs.Written.{compact_text}
use Rattle.eme_types.specs.declared.access.Capability.{Capability}
use Rattle.eme_types.specs.declared.access.Config.{Config}
use Rattle.eme_types.specs.declared.access.Need.{Need}
use Rattle.eme_types.specs.declared.access.Need.TheVariants.{Required, Optional, NotAllowed}

-- a text as serde_json writes it
unfoldable pub text_json : List ℕ → List ℕ
text_json text = compact_text (string text)

-- an item behind another
abbrev pub further : {A : Type 0} → (A → List ℕ) → A → List ℕ
further writer item = codes "," ++ writer item

-- the items, parted by commas
abbrev pub parted : {A : Type 0} → (A → List ℕ) → List A → List ℕ
parted writer [] = []
parted writer (item ∷ items) = writer item ++ flat_map (further writer) items

-- a list
abbrev pub list_json : {A : Type 0} → (A → List ℕ) → List A → List ℕ
list_json writer items = codes "[" ++ parted writer items ++ codes "]"

-- a requirement
abbrev pub need_json : Need → List ℕ
need_json Required = codes "\"required\""
need_json Optional = codes "\"optional\""
need_json NotAllowed = codes "\"not-allowed\""

-- a capability
unfoldable pub capability_json : Capability → List ℕ
capability_json c = codes "{\"contentType\":" ++ text_json c.content ++ codes ",\"robustness\":" ++ text_json c.robustness ++ codes "}"

-- a configuration, its members in the order of `Config`
unfoldable pub config_json : Config → List ℕ
config_json c =
    codes "{\"label\":" ++ text_json c.label
    ++ codes ",\"initDataTypes\":" ++ list_json text_json c.init_types
    ++ codes ",\"audioCapabilities\":" ++ list_json capability_json c.audio
    ++ codes ",\"videoCapabilities\":" ++ list_json capability_json c.video
    ++ codes ",\"distinctiveIdentifier\":" ++ need_json c.identifier
    ++ codes ",\"persistentState\":" ++ need_json c.state
    ++ codes ",\"sessionTypes\":" ++ list_json text_json c.sessions
    ++ codes "}"

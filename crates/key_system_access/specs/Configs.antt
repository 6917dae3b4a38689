-- Lists of configurations in JSON (Encrypted Media Extensions, MediaKeySystemConfiguration).
use Rattle.std.specs.Prelude.{ℕ, List, [], ◌∷◌, Option, Some, None, Result, Ok, Err, ok_or, codes, bytes_eq, if◌then◌else◌}
use Rattle.serde_json.specs.Data.{Data}
use Rattle.serde_json.specs.Find.{get, as_array, as_object, as_str}
use Rattle.clearkey_json.specs.Json.{json_of, list_of}
use Rattle.eme_types.specs.FirstFault.{◌>>=◌, read_each}
use Rattle.eme_types.specs.declared.access.Capability.{Capability}
use Rattle.eme_types.specs.declared.access.Config.{Config}
use Rattle.eme_types.specs.declared.access.Need.{Need}
use Rattle.eme_types.specs.declared.access.Need.TheVariants.{Required, Optional, NotAllowed}
use Rattle.key_system_access.specs.declared.configs.ConfigFault.{ConfigFault}
use Rattle.key_system_access.specs.declared.configs.ConfigFault.TheVariants.{Json, Shape}

-- what is read of a member, or what its absence says
abbrev pub member_or : {A : Type 0} → A → (Data → Result A ConfigFault) → Option Data → Result A ConfigFault
member_or absent reader None = Ok absent
member_or absent reader (Some d) = reader d

-- a text
abbrev pub text_of : Data → Result (List ℕ) ConfigFault
text_of d = ok_or (as_str d) Shape

-- a list, read item by item
abbrev pub list_in : {A : Type 0} → (Data → Result A ConfigFault) → Data → Result (List A) ConfigFault
list_in reader d = do
  items ← ok_or (as_array d) Shape
  read_each reader (list_of items)

-- a capability; a member that is absent is the empty text
unfoldable pub capability_of : Data → Result Capability ConfigFault
capability_of d = do
  members ← ok_or (as_object d) Shape
  content ← member_or [] text_of (get (codes "contentType") d)
  robustness ← member_or [] text_of (get (codes "robustness") d)
  Ok (record { content = content; robustness = robustness })

-- the requirement of this name
abbrev pub need_named : List ℕ → Result Need ConfigFault
need_named text =
    if bytes_eq text (codes "required") then Ok Required
    else if bytes_eq text (codes "optional") then Ok Optional
    else if bytes_eq text (codes "not-allowed") then Ok NotAllowed
    else Err Shape

-- a requirement
abbrev pub need_of : Data → Result Need ConfigFault
need_of d = text_of d >>= need_named

-- without the member only sessions of the type temporary are asked for
abbrev pub sessions_of : Data → Result (List (List ℕ)) ConfigFault
sessions_of d = member_or (codes "temporary" ∷ []) (list_in text_of) (get (codes "sessionTypes") d)

-- a configuration; each member may be absent
unfoldable pub config_of : Data → Result Config ConfigFault
config_of d = do
  members ← ok_or (as_object d) Shape
  label ← member_or [] text_of (get (codes "label") d)
  init_types ← member_or [] (list_in text_of) (get (codes "initDataTypes") d)
  audio ← member_or [] (list_in capability_of) (get (codes "audioCapabilities") d)
  video ← member_or [] (list_in capability_of) (get (codes "videoCapabilities") d)
  identifier ← member_or Optional need_of (get (codes "distinctiveIdentifier") d)
  state ← member_or Optional need_of (get (codes "persistentState") d)
  sessions ← sessions_of d
  Ok (record { label = label; init_types = init_types; audio = audio; video = video; identifier = identifier; state = state; sessions = sessions })

-- the configurations that the bytes are, or what the bytes are not
unfoldable pub configs_of : List ℕ → Result (List Config) ConfigFault
configs_of bytes = do
  list ← ok_or (json_of bytes) Json
  list_in config_of list

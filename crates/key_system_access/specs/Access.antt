-- Which configuration is granted (Encrypted Media Extensions, 'Get Supported Configuration').
use Rattle.std.specs.Prelude.{◌≡◌, ℕ, List, [], ◌∷◌, filter, find, Bool, true, false, not, ◌&&◌, ◌||◌, option_map, Result, Err, IsOk, ok_or, codes, bytes_eq, if◌then◌else◌}
use Rattle.std.specs.List.{list_any, list_all}
use Rattle.eme_types.specs.declared.access.Capability.{Capability}
use Rattle.eme_types.specs.declared.access.Config.{Config}
use Rattle.eme_types.specs.declared.access.Need.{Need}
use Rattle.eme_types.specs.declared.access.Need.TheVariants.{Required, Optional, NotAllowed}
use Rattle.eme_types.specs.declared.call.DomError.{DomError}
use Rattle.eme_types.specs.declared.call.DomError.TheVariants.{TypeFault, NotSupported}
use Rattle.key_system_access.specs.declared.access.AccessFault.{AccessFault}
use Rattle.key_system_access.specs.declared.access.AccessFault.TheVariants.{Dom, OutOfMemory}
use Rattle.key_system_access.specs.declared.content.Medium.{Medium}
use Rattle.key_system_access.specs.declared.content.Medium.TheVariants.{Video, Audio}
use Rattle.key_system_access.specs.ContentType.{is_content_type}

-- the list is empty
abbrev pub is_none_of : {A : Type 0} → List A → Bool
is_none_of [] = true
is_none_of (x ∷ xs) = false

-- the initialization data type is supported
abbrev pub is_init_type : List ℕ → Bool
is_init_type text = bytes_eq text (codes "cenc") || bytes_eq text (codes "keyids")

-- the session type is supported
abbrev pub is_session_type : List ℕ → Bool
is_session_type text = bytes_eq text (codes "temporary")

-- no initialization data types are named, or one that is supported
abbrev pub init_types_fit : List (List ℕ) → Bool
init_types_fit types = is_none_of types || list_any is_init_type types

-- neither identifiers nor state are kept
abbrev pub is_no_demand : Need → Bool
is_no_demand Required = false
is_no_demand Optional = true
is_no_demand NotAllowed = true

-- the capability is supported
abbrev pub is_capable : Medium → Capability → Bool
is_capable medium c = is_none_of c.robustness && is_content_type medium c.content

-- the content type is not empty
abbrev pub has_content : Capability → Bool
has_content c = not (is_none_of c.content)

-- no capability has an empty content type, and there is none, or one that is supported
abbrev pub capabilities_fit : Medium → List Capability → Bool
capabilities_fit medium cs = list_all has_content cs && (is_none_of cs || list_any (is_capable medium) cs)

-- the configuration is supported ('Get Supported Configuration')
unfoldable pub supported : Config → Bool
supported c =
    init_types_fit c.init_types
    && (is_no_demand c.identifier && is_no_demand c.state)
    && list_all is_session_type c.sessions
    && not (is_none_of c.video && is_none_of c.audio)
    && (capabilities_fit Video c.video && capabilities_fit Audio c.audio)

-- what is supported of a configuration
unfoldable pub kept : Config → Config
kept c = record {
  label = c.label;
  init_types = filter is_init_type c.init_types;
  audio = filter (is_capable Audio) c.audio;
  video = filter (is_capable Video) c.video;
  identifier = NotAllowed;
  state = NotAllowed;
  sessions = c.sessions;
}

-- what is kept of the first supported candidate, or the refusal
unfoldable pub access : List ℕ → List Config → Result Config DomError
access name candidates =
    if is_none_of name || is_none_of candidates then Err TypeFault
    else if bytes_eq name (codes "org.w3.clearkey") then ok_or (option_map kept (find supported candidates)) NotSupported
    else Err NotSupported

-- the fault tells the refusal; memory is wanted for a configuration alone
abbrev pub IsRefusal : AccessFault → Result Config DomError → Type 0
IsRefusal (Dom error) answer = answer ≡ Err error
IsRefusal OutOfMemory answer = IsOk answer

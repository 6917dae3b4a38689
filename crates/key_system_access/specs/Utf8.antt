-- Configurations whose texts are UTF-8 (RFC 3629).
use Rattle.std.specs.List.{All}
use Rattle.std.specs.Str.{IsUtf8}
use Rattle.eme_types.specs.declared.access.Capability.{Capability}
use Rattle.eme_types.specs.declared.access.Config.{Config}

-- the texts of a capability are UTF-8
pub record IsCapabilityUtf8 (c : Capability) : Type 0 where
  pub content : IsUtf8 c.content
  pub robustness : IsUtf8 c.robustness

-- the texts of a configuration are UTF-8
pub record IsConfigUtf8 (c : Config) : Type 0 where
  pub label : IsUtf8 c.label
  pub init_types : All IsUtf8 c.init_types
  pub audio : All IsCapabilityUtf8 c.audio
  pub video : All IsCapabilityUtf8 c.video
  pub sessions : All IsUtf8 c.sessions

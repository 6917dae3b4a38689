-- Texts put one behind the other.
use Rattle.std.proofs.Common.{◌≡◌, ℕ, List, [], ◌++◌, append_assoc, codes, refl}
use Rattle.eme_types.specs.declared.access.Capability.{Capability}
use Rattle.eme_types.specs.declared.access.Config.{Config}
use Rattle.key_system_access.specs.ConfigText.{text_json, capability_json, list_json, need_json, config_json}

five : (out a b c d e : List ℕ) → ((((out ++ a) ++ b) ++ c) ++ d) ++ e ≡ out ++ (a ++ b ++ c ++ d ++ e)
five out a b c d e = simp append_assoc

pub capability_put : (c : Capability) (out x1 x2 x3 x4 : List ℕ) → x1 ≡ out ++ codes "{\"contentType\":" → x2 ≡ x1 ++ text_json c.content → x3 ≡ x2 ++ codes ",\"robustness\":"
    → x4 ≡ x3 ++ text_json c.robustness → x4 ++ codes "}" ≡ out ++ capability_json c
unfolding capability_json
capability_put c out x1 x2 x3 x4 e1 e2 e3 e4 = rw (e4, e3, e2, e1) (five out (codes "{\"contentType\":") (text_json c.content) (codes ",\"robustness\":") (text_json c.robustness) (codes "}"))

-- the first members of a configuration
pub first_put : (c : Config) (x0 x1 x2 x3 x4 x5 x6 x7 x8 : List ℕ) → x0 ≡ [] → x1 ≡ x0 ++ codes "{\"label\":" → x2 ≡ x1 ++ text_json c.label
    → x3 ≡ x2 ++ codes ",\"initDataTypes\":" → x4 ≡ x3 ++ list_json text_json c.init_types → x5 ≡ x4 ++ codes ",\"audioCapabilities\":" → x6 ≡ x5 ++ list_json capability_json c.audio
    → x7 ≡ x6 ++ codes ",\"videoCapabilities\":" → x8 ≡ x7 ++ list_json capability_json c.video
    → x8 ≡ codes "{\"label\":" ++ text_json c.label ++ codes ",\"initDataTypes\":" ++ list_json text_json c.init_types ++ codes ",\"audioCapabilities\":" ++ list_json capability_json c.audio ++ codes ",\"videoCapabilities\":" ++ list_json capability_json c.video
first_put c x0 x1 x2 x3 x4 x5 x6 x7 x8 e0 e1 e2 e3 e4 e5 e6 e7 e8 = rw (e8, e7, e6, e5, e4, e3, e2, e1, e0) refl

pub config_put : (c : Config) (x8 x9 x10 x11 x12 x13 x14 x15 : List ℕ)
    → x8 ≡ codes "{\"label\":" ++ text_json c.label ++ codes ",\"initDataTypes\":" ++ list_json text_json c.init_types ++ codes ",\"audioCapabilities\":" ++ list_json capability_json c.audio ++ codes ",\"videoCapabilities\":" ++ list_json capability_json c.video
    → x9 ≡ x8 ++ codes ",\"distinctiveIdentifier\":" → x10 ≡ x9 ++ need_json c.identifier → x11 ≡ x10 ++ codes ",\"persistentState\":" → x12 ≡ x11 ++ need_json c.state
    → x13 ≡ x12 ++ codes ",\"sessionTypes\":" → x14 ≡ x13 ++ list_json text_json c.sessions → x15 ≡ x14 ++ codes "}" → x15 ≡ config_json c
unfolding config_json
config_put c x8 x9 x10 x11 x12 x13 x14 x15 e8 e9 e10 e11 e12 e13 e14 e15 = rw (e15, e14, e13, e12, e11, e10, e9, e8) refl

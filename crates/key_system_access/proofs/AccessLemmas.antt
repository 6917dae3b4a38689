-- The answer for a known name.
use Rattle.std.proofs.Common.{◌≡◌, ℕ, List, [], ◌∷◌, Bool, true, false, cond, Some, find, option_map, Ok, codes, bytes_eq, refl, subst}
use Rattle.std.specs.List.{All}
use Rattle.std.specs.Str.{IsUtf8}
use Rattle.std.proofs.lemmas.List.Elements.{All-filter, All-head, All-tail}
use Rattle.eme_types.specs.declared.access.Config.{Config}
use Rattle.key_system_access.specs.declared.content.Medium.TheVariants.{Video, Audio}
use Rattle.key_system_access.specs.Access.{is_none_of, is_init_type, is_capable, supported, kept, access}
use Rattle.key_system_access.specs.Utf8.{IsCapabilityUtf8, IsConfigUtf8}

pub access-is : (name : List ℕ) (candidates : List Config) (config : Config) → is_none_of name ≡ false → is_none_of candidates ≡ false → bytes_eq name (codes "org.w3.clearkey") ≡ true
    → Some config ≡ option_map kept (find supported candidates) → access name candidates ≡ Ok config
unfolding access
access-is name candidates config named some known first = rw (named, some, known, ← first) refl

kept_utf8 : (c : Config) → IsConfigUtf8 c → IsConfigUtf8 (kept c)
unfolding kept
kept_utf8 c utf8 = record {
  label = utf8.label;
  init_types = All-filter is_init_type IsUtf8 c.init_types utf8.init_types;
  audio = All-filter (is_capable Audio) IsCapabilityUtf8 c.audio utf8.audio;
  video = All-filter (is_capable Video) IsCapabilityUtf8 c.video utf8.video;
  sessions = utf8.sessions;
}

first_utf8 : (b : Bool) (c : Config) (cs : List Config) (config : Config) → Some config ≡ option_map kept (cond b (Some c) (find supported cs)) → IsConfigUtf8 c
    → (Some config ≡ option_map kept (find supported cs) → IsConfigUtf8 config) → IsConfigUtf8 config
first_utf8 true c cs config first utf8 later =
    let is : kept c ≡ config = cc in
    subst IsConfigUtf8 is (kept_utf8 c utf8)
first_utf8 false c cs config first utf8 later = later first

-- what is granted has the texts of a candidate
pub granted_utf8 : (candidates : List Config) (config : Config) → Some config ≡ option_map kept (find supported candidates) → All IsConfigUtf8 candidates → IsConfigUtf8 config
granted_utf8 [] config none utf8 = absurd cc
granted_utf8 (c ∷ cs) config first utf8 =
    first_utf8 (supported c) c cs config first (All-head IsConfigUtf8 c cs utf8) (λ later. granted_utf8 cs config later (All-tail IsConfigUtf8 c cs utf8))

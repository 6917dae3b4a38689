-- The live claims, as the core keeps them.
use Rattle.std.specs.Prelude.{Bool, false, Option, Some, None}
use Rattle.std.specs.Str.{bytes_eq}
use Rattle.eme_types.specs.declared.kid.KeyBytes.{KeyBytes}
use Rattle.eme_types.specs.declared.entry.Entry.{Entry}
use Rattle.eme_types.specs.declared.entry.Entry.TheVariants.{Claim}
use Rattle.key_claims.specs.TracksState.{ClaimState}
use Rattle.key_sessions.specs.Machine.{Machine}
use Rattle.key_sessions.specs.Keys.{held_key}

abbrev pub entry_of : ClaimState → Entry
entry_of c = Claim c.worker c.track c.index c.session c.kid

abbrev pub is_key : Option KeyBytes → KeyBytes → Bool
is_key None key = false
is_key (Some held) key = bytes_eq held.bytes key.bytes

-- the claim's session holds its very key usable
abbrev pub holds_still : Machine → ClaimState → Bool
holds_still m c = is_key (held_key m c.session c.kid) c.key

-- The fields of the kept claim that an entry is of.
use Rattle.std.specs.Prelude.{◌≡◌, ℕ, List}
use Rattle.eme_types.specs.declared.entry.Entry.TheVariants.{Claim}
use Rattle.key_claims.specs.TracksState.{ClaimState}
use Rattle.key_claims.specs.declared.claim.Claim.{Claim as Held}
use Rattle.cdm_state.specs.Slots.{entry_of}

pub track_same : (o : ClaimState) (c : Held) (kid : List ℕ) → entry_of o ≡ Claim c.worker c.track c.index c.session kid → o.track ≡ c.track
track_same o c kid e = cc

pub index_same : (o : ClaimState) (c : Held) (kid : List ℕ) → entry_of o ≡ Claim c.worker c.track c.index c.session kid → o.index ≡ c.index
index_same o c kid e = cc

pub session_same : (o : ClaimState) (c : Held) (kid : List ℕ) → entry_of o ≡ Claim c.worker c.track c.index c.session kid → o.session ≡ c.session
session_same o c kid e = cc

pub kid_same : (o : ClaimState) (c : Held) (kid : List ℕ) → entry_of o ≡ Claim c.worker c.track c.index c.session kid → o.kid ≡ kid
kid_same o c kid e = cc

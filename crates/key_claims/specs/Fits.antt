-- What is kept of each claim.
use Rattle.std.specs.Prelude.{ℕ, ◌≡◌, ◌+◌, ◌≤◌, ◌<◌, List, [], ◌∷◌, length, slice_get, Option, Some, None}
use Rattle.eme_types.specs.declared.limits.TheConstants.{CLAIM_WINDOW}
use Rattle.eme_types.specs.declared.kid.KeyBytes.{KeyBytes}
use Rattle.eme_types.specs.declared.sample.EncSample.{EncSample}
use Rattle.eme_types.specs.declared.sample.Protect.{Protect}
use Rattle.sample_crypt.specs.Decryption.{decryption}
use Rattle.cdm_world.specs.In.{In}
use Rattle.key_claims.specs.declared.claim.Claim.{Claim}
use Rattle.key_claims.specs.TracksState.{ClaimState, FedTrack, TracksState}
use Rattle.key_claims.specs.Changes.{find_fed}

-- the sample at an index of the track, if both are there
abbrev pub fed_at : Option FedTrack → ℕ → Option EncSample
fed_at None index = None
fed_at (Some t) index = slice_get t.fed index

-- the sample that was fed on a track at an index
abbrev pub fed_sample : List FedTrack → ℕ → ℕ → Option EncSample
fed_sample tracks track index = fed_at (find_fed tracks track) index

-- the clear bytes, where they are there, are the sample's decryption
abbrev pub IsOpened : Option (List ℕ) → EncSample → KeyBytes → Type 0
IsOpened None sample key = Unit {0}
IsOpened (Some bytes) sample key = bytes ≡ decryption sample key

-- the sample of a claim is fed and protected and has its key id, its index is in the window of 16 of its track, and its clear bytes are the decryption
pub record Fits (tracks : List FedTrack) (c : ClaimState) : Type 0 where
  pub track : FedTrack
  pub known : find_fed tracks c.track ≡ Some track
  pub sample : EncSample
  pub fed : slice_get track.fed c.index ≡ Some sample
  pub protect : Protect
  pub protected : sample.protect ≡ Some protect
  pub same_id : protect.kid ≡ c.kid
  pub from : length track.outputs ≤ c.index
  pub window : c.index < length track.outputs + CLAIM_WINDOW
  pub opened : IsOpened c.clear sample c.key

-- no two claims are on one sample
abbrev pub Apart : List ClaimState → Type 0
Apart [] = Unit {0}
Apart (c ∷ more) = ((d : ClaimState) → In more d → c.track ≡ d.track → c.index ≡ d.index → ⊥) × Apart more

-- a claim that is kept is the one in hand, and waits for its clear bytes
pub record IsInHand (tracks : List FedTrack) (c : ClaimState) (held : Claim) : Type 0 where
  pub track : c.track ≡ held.track
  pub index : c.index ≡ held.index
  pub key : c.key ≡ held.key
  pub waits : c.clear ≡ None
  pub sample : fed_sample tracks held.track held.index ≡ Some held.sample

-- where a claim that is not ended has the place of the one in hand, it is that one
abbrev pub MayDeliver : TracksState → Claim → Type 0
MayDeliver s held = (c : ClaimState) → In s.claims c → c.place ≡ held.place → IsInHand s.tracks c held

-- Which sample can be claimed, published or waited for.
use Rattle.std.specs.Prelude.{ℕ, ◌+◌, ◌≡◌, ◌<◌, ◌≤◌, Bool, true, false, if◌then◌else◌, List, length, slice_get, slice_index_or, Option, Some, None, is_none, nat_lt}
use Rattle.eme_types.specs.declared.limits.TheConstants.{CLAIM_WINDOW}
use Rattle.eme_types.specs.declared.kid.KeyBytes.{KeyBytes}
use Rattle.eme_types.specs.declared.sample.EncSample.{EncSample}
use Rattle.eme_types.specs.declared.sample.Protect.{Protect}
use Rattle.key_claims.specs.Claims.{claimed_in, ready_claim}
use Rattle.key_claims.specs.TracksState.{ClaimState, FedTrack, track_of}
use Rattle.key_claims.specs.declared.choice.Work.{Work}
use Rattle.cdm_world.specs.Tracks.{Picks, head}

-- what protects the sample, if it is there and protected
abbrev pub protect_of : Option EncSample → Option Protect
protect_of None = None
protect_of (Some sample) = sample.protect

-- what protects the sample at an index, if it is fed and protected
abbrev pub protect_at : List EncSample → ℕ → Option Protect
protect_at fed index = protect_of (slice_get fed index)

-- the pick for what protects a sample, unless it is claimed
abbrev pub free_pick : Picks → Bool → Option Protect → Option (ℕ × KeyBytes)
free_pick picks claimed None = None
free_pick picks claimed (Some p) = if claimed then None else picks p.kid

-- the pick for the sample at an index, if it is fed, protected and not claimed
abbrev pub claim_pick : Picks → List ClaimState → FedTrack → ℕ → Option (ℕ × KeyBytes)
claim_pick picks claims t index = free_pick picks (claimed_in claims t.id index) (protect_at t.fed index)

-- no sample of the track's window can be claimed
abbrev pub NoWorkOn : Picks → List ClaimState → FedTrack → Type 0
NoWorkOn picks claims t = t.waiting ≡ false → (i : ℕ) → length t.outputs ≤ i → i < length t.outputs + CLAIM_WINDOW → claim_pick picks claims t i ≡ None

-- the sample of least index of the track's window that can be claimed
pub record IsWorkOn (picks : Picks) (claims : List ClaimState) (t : FedTrack) (w : Work) : Type 0 where
  pub awake : t.waiting ≡ false
  pub from : length t.outputs ≤ w.index
  pub window : w.index < length t.outputs + CLAIM_WINDOW
  pub picked : claim_pick picks claims t w.index ≡ Some (w.session, w.key)
  pub least : (i : ℕ) → length t.outputs ≤ i → i < w.index → claim_pick picks claims t i ≡ None

-- the first track that has one
pub record IsWork (picks : Picks) (claims : List ClaimState) (tracks : List FedTrack) (w : Work) : Type 0 where
  pub within : w.at < length tracks
  pub on : (d : FedTrack) → IsWorkOn picks claims (slice_index_or tracks w.at d) w
  pub first : (k : ℕ) (d : FedTrack) → k < w.at → NoWorkOn picks claims (slice_index_or tracks k d)

-- no track has a sample that can be claimed
abbrev pub NoWork : Picks → List ClaimState → List FedTrack → Type 0
NoWork picks claims tracks = (k : ℕ) (d : FedTrack) → k < length tracks → NoWorkOn picks claims (slice_index_or tracks k d)

-- the sample is there and unprotected
abbrev pub is_clear : Option EncSample → Bool
is_clear None = false
is_clear (Some sample) = is_none sample.protect

-- the head is fed and unprotected
abbrev pub has_clear_head : FedTrack → Bool
has_clear_head t = is_clear (head (track_of t))

-- the sample is protected, and has neither a claim nor a pick
abbrev pub is_free_of : Picks → Bool → Option Protect → Bool
is_free_of picks claimed None = false
is_free_of picks claimed (Some p) = if claimed then false else is_none (picks p.kid)

-- the track is not waiting, and its head is protected and has neither a claim nor a pick
abbrev pub is_unkeyed : Picks → List ClaimState → FedTrack → Bool
is_unkeyed picks claims t = if t.waiting then false else is_free_of picks (claimed_in claims t.id (length t.outputs)) (protect_at t.fed (length t.outputs))

-- the first track that passes the test
pub record IsFirst (test : FedTrack → Bool) (tracks : List FedTrack) (at : ℕ) : Type 0 where
  pub within : at < length tracks
  pub on : (d : FedTrack) → test (slice_index_or tracks at d) ≡ true
  pub first : (k : ℕ) (d : FedTrack) → k < at → test (slice_index_or tracks k d) ≡ false

-- no track passes the test
abbrev pub NoneIs : (FedTrack → Bool) → List FedTrack → Type 0
NoneIs test tracks = (k : ℕ) (d : FedTrack) → k < length tracks → test (slice_index_or tracks k d) ≡ false

-- the place of the claim on the head that has its clear bytes, where the head is fed
abbrev pub ready_on : List ClaimState → FedTrack → Option ℕ
ready_on claims t = if nat_lt (length t.outputs) (length t.fed) then ready_claim claims t.id (length t.outputs) else None

-- the first track that has one stands at this place of the list
pub record IsReady (claims : List ClaimState) (tracks : List FedTrack) (at place : ℕ) : Type 0 where
  pub within : at < length tracks
  pub on : (d : FedTrack) → ready_on claims (slice_index_or tracks at d) ≡ Some place
  pub first : (k : ℕ) (d : FedTrack) → k < at → ready_on claims (slice_index_or tracks k d) ≡ None

-- no track has a claim on its head that has its clear bytes
abbrev pub NoneReady : List ClaimState → List FedTrack → Type 0
NoneReady claims tracks = (k : ℕ) (d : FedTrack) → k < length tracks → ready_on claims (slice_index_or tracks k d) ≡ None

-- the id of the track at a place of the list, and the index of its next sample
pub record IsNext (tracks : List FedTrack) (at track index : ℕ) : Type 0 where
  pub track_ : (d : FedTrack) → track ≡ (slice_index_or tracks at d).id
  pub index_ : (d : FedTrack) → index ≡ length (slice_index_or tracks at d).outputs

-- the track waits, and the protected head has no pick
abbrev pub rests_protected : Picks → Bool → Option Protect → Bool
rests_protected picks waiting None = false
rests_protected picks waiting (Some p) = if waiting then is_none (picks p.kid) else false

-- there is no head, or the track rests at it
abbrev pub rests_at : Picks → Bool → Option EncSample → Bool
rests_at picks waiting None = true
rests_at picks waiting (Some sample) = rests_protected picks waiting sample.protect

-- all that was fed is out, or the track waits and its head has no pick
abbrev pub rests : Picks → FedTrack → Bool
rests picks t = rests_at picks t.waiting (head (track_of t))

-- each track passes the test
abbrev pub AllRest : (FedTrack → Bool) → List FedTrack → Type 0
AllRest test tracks = (k : ℕ) (d : FedTrack) → k < length tracks → test (slice_index_or tracks k d) ≡ true

-- the first track that does not pass the test
pub record IsUnrested (test : FedTrack → Bool) (tracks : List FedTrack) (at : ℕ) : Type 0 where
  pub within : at < length tracks
  pub on : (d : FedTrack) → test (slice_index_or tracks at d) ≡ false
  pub before : (k : ℕ) (d : FedTrack) → k < at → test (slice_index_or tracks k d) ≡ true

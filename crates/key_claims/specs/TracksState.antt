-- What contracts see of tracks and claims.
use Rattle.std.specs.Prelude.{ℕ, Bool, List, length, Option}
use Rattle.eme_types.specs.declared.kid.KeyBytes.{KeyBytes}
use Rattle.eme_types.specs.declared.sample.EncSample.{EncSample}
use Rattle.cdm_world.specs.Tracks.{TrackState}

-- a claim that is not ended, with its clear bytes once they were delivered
pub record ClaimState : Type 0 where
  pub place : ℕ
  pub worker : ℕ
  pub track : ℕ
  pub index : ℕ
  pub session : ℕ
  pub kid : List ℕ
  pub key : KeyBytes
  pub clear : Option (List ℕ)

-- a track: the samples that were fed, the bytes that are out of the first of them, and whether it waits for a key
pub record FedTrack : Type 0 where
  pub id : ℕ
  pub fed : List EncSample
  pub outputs : List (List ℕ)
  pub waiting : Bool

-- the tracks in order, and the claims that are not ended in the order in which they were given
pub record TracksState : Type 0 where
  pub tracks : List FedTrack
  pub claims : List ClaimState

-- the track as the algorithms see it
abbrev pub track_of : FedTrack → TrackState
track_of t = record { id = t.id; fed = t.fed; published = length t.outputs; waiting = t.waiting }

-- How calls change tracks.
use Rattle.std.specs.Prelude.{ℕ, zero, suc, ◌==◌, ◌≡◌, ◌<◌, Bool, false, if◌then◌else◌, List, [], ◌∷◌, ◌++◌, take, length, slice_index_or, Option, Some, None}
use Rattle.std.specs.List.{fold}
use Rattle.eme_types.specs.declared.sample.EncSample.{EncSample}
use Rattle.eme_types.specs.declared.media.TrackPart.{TrackPart}
use Rattle.cdm_world.specs.Tracks.{Picks, head, has_pick}
use Rattle.key_claims.specs.TracksState.{FedTrack, track_of}

-- a track without a sample
abbrev pub empty_fed : ℕ → FedTrack
empty_fed id = record { id = id; fed = []; outputs = []; waiting = false }

-- the first track with the id
abbrev pub find_fed : List FedTrack → ℕ → Option FedTrack
find_fed [] id = None
find_fed (t ∷ more) id = if t.id == id then Some t else find_fed more id

-- the first track with the id stands at i
pub record StandsAt (tracks : List FedTrack) (id i : ℕ) : Type 0 where
  pub within : i < length tracks
  pub first : find_fed (take i tracks) id ≡ None
  pub same : (d : FedTrack) → (slice_index_or tracks i d).id ≡ id

-- what is out of the track, if it is there
abbrev pub outputs_of : Option FedTrack → List (List ℕ)
outputs_of None = []
outputs_of (Some t) = t.outputs

-- the head of the track, if it is there
abbrev pub head_of : Option FedTrack → Option EncSample
head_of None = None
head_of (Some t) = head (track_of t)

-- the track is there and waits for a key
abbrev pub waits : Option FedTrack → Bool
waits None = false
waits (Some t) = t.waiting

-- the track at a place of the list is changed
abbrev pub changed_at : List FedTrack → ℕ → (FedTrack → FedTrack) → List FedTrack
changed_at [] i f = []
changed_at (t ∷ more) zero f = f t ∷ more
changed_at (t ∷ more) (suc i) f = t ∷ changed_at more i f

-- these bytes are out of the next sample
abbrev pub more_out : List ℕ → FedTrack → FedTrack
more_out bytes t = record t { outputs = t.outputs ++ bytes ∷ [] }

-- the samples are fed behind those that were
abbrev pub more_fed : List EncSample → FedTrack → FedTrack
more_fed samples t = record t { fed = t.fed ++ samples }

-- the track waits for a key, or no longer does
abbrev pub with_waiting : Bool → FedTrack → FedTrack
with_waiting waiting t = record t { waiting = waiting }

-- the first track with the id is changed
abbrev pub change_fed : List FedTrack → ℕ → (FedTrack → FedTrack) → List FedTrack
change_fed [] id f = []
change_fed (t ∷ more) id f = if t.id == id then f t ∷ more else t ∷ change_fed more id f

-- the samples of a part come to its track
abbrev pub feed_one : List FedTrack → TrackPart → List FedTrack
feed_one tracks part = change_fed tracks part.track (more_fed part.samples)

-- the samples of each part come to its track
abbrev pub feed_all : List FedTrack → List TrackPart → List FedTrack
feed_all tracks parts = fold feed_one tracks parts

-- the track no longer waits, if its head has a pick
abbrev pub resumed_one : Picks → FedTrack → FedTrack
resumed_one picks t = record t { waiting = if has_pick picks (head (track_of t)) then false else t.waiting }

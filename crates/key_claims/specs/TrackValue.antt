-- A track as its type is seen: what is fed and out, and the room that it has.
use Rattle.std.specs.Prelude.{ℕ, ◌-◌, List, [], ◌∷◌, length}
use Rattle.std.specs.List.{sum_by}
use Rattle.eme_types.specs.declared.sample.EncSample.{EncSample}
use Rattle.key_claims.specs.declared.track.Output.{Output}
use Rattle.key_claims.specs.declared.track.Output.TheVariants.{Opened, Same}
use Rattle.cdm_world.specs.Tracks.{Picks}
use Rattle.key_claims.specs.TracksState.{FedTrack}
use Rattle.key_claims.specs.Changes.{resumed_one}

-- the track, the room for more samples, and the room for what will be out of them
pub record TrackValue : Type 0 where
  pub track : FedTrack
  pub spare : ℕ
  pub room : ℕ

-- the track without its room
abbrev pub fed_track : TrackValue → FedTrack
fed_track v = v.track

-- the bytes that are out of a sample: those that were opened, or its own
abbrev pub bytes_out : EncSample → Output → List ℕ
bytes_out sample (Opened bytes) = bytes
bytes_out sample Same = sample.bytes

-- the bytes that are out
abbrev pub shown : List EncSample → List Output → List (List ℕ)
shown fed [] = []
shown [] (o ∷ os) = []
shown (x ∷ fed) (o ∷ os) = bytes_out x o ∷ shown fed os

-- the track no longer waits, if its head has a pick
abbrev pub resumed_value : Picks → TrackValue → TrackValue
resumed_value picks v = record v { track = resumed_one picks v.track }

-- the samples that are not out yet
abbrev pub left_of : FedTrack → ℕ
left_of t = length t.fed - length t.outputs

-- how many fed samples of all tracks are not out
abbrev pub all_left : List FedTrack → ℕ
all_left tracks = sum_by left_of tracks

-- the number of fed samples
abbrev pub fed_of : FedTrack → ℕ
fed_of t = length t.fed

-- the number of all fed samples
abbrev pub all_fed : List FedTrack → ℕ
all_fed tracks = sum_by fed_of tracks

-- Tracks: the samples that were fed, how many of them are out, and whether the track waits for a key.
-- What is said of keys takes the picks: from a key id to the session and the key that would be used for it.
use Rattle.std.specs.Prelude.{ℕ, ◌+◌, ◌≡◌, ◌==◌, Bool, true, false, IsTrue, if◌then◌else◌, List, [], ◌∷◌, ◌++◌, map, slice_get, Option, Some, None, is_some}
use Rattle.std.specs.List.{fold}
use Rattle.eme_types.specs.declared.kid.KeyBytes.{KeyBytes}
use Rattle.eme_types.specs.declared.sample.EncSample.{EncSample}
use Rattle.eme_types.specs.declared.sample.Protect.{Protect}
use Rattle.eme_types.specs.declared.media.TrackPart.{TrackPart}

-- a track: its id; the samples that were fed to it, in order; how many of them are out; whether it waits for a key
pub record TrackState : Type 0 where
  pub id : ℕ
  pub fed : List EncSample
  pub published : ℕ
  pub waiting : Bool

-- nothing is fed, and the track does not wait
abbrev pub empty_track : ℕ → TrackState
empty_track id = record { id = id; fed = []; published = 0; waiting = false }

-- the first track with the id
abbrev pub find_track : List TrackState → ℕ → Option TrackState
find_track [] id = None
find_track (t ∷ more) id = if t.id == id then Some t else find_track more id

-- the first track with the id is changed
abbrev pub change_track : List TrackState → ℕ → (TrackState → TrackState) → List TrackState
change_track [] id f = []
change_track (t ∷ more) id f = if t.id == id then f t ∷ more else t ∷ change_track more id f

-- the head: the fed sample at the published count
abbrev pub head : TrackState → Option EncSample
head t = slice_get t.fed t.published

-- one more sample is out
abbrev pub one_more : TrackState → TrackState
one_more t = record t { published = t.published + 1 }

-- the track waits for a key
abbrev pub set_waiting : TrackState → TrackState
set_waiting t = record t { waiting = true }

-- the samples are fed behind those that were
abbrev pub add_samples : List EncSample → TrackState → TrackState
add_samples samples t = record t { fed = t.fed ++ samples }

-- the samples of a part are added to its track
abbrev pub feed_part : List TrackState → TrackPart → List TrackState
feed_part tracks part = change_track tracks part.track (add_samples part.samples)

-- the samples of each part are added to its track
abbrev pub feed_parts : List TrackState → List TrackPart → List TrackState
feed_parts tracks parts = fold feed_part tracks parts

-- from a key id to the session and the key that would be used for it
abbrev pub Picks : Type 0
Picks = List ℕ → Option (ℕ × KeyBytes)

-- the sample is protected and its key id has a pick
abbrev pub protect_picked : Picks → Option Protect → Bool
protect_picked picks None = false
protect_picked picks (Some p) = is_some (picks p.kid)

-- the sample is there and protected, and its key id has a pick
abbrev pub has_pick : Picks → Option EncSample → Bool
has_pick picks None = false
has_pick picks (Some sample) = protect_picked picks sample.protect

-- a track whose head has a pick no longer waits
abbrev pub resumed_track : Picks → TrackState → TrackState
resumed_track picks t = if has_pick picks (head t) then record t { waiting = false } else t

-- each track whose head has a pick no longer waits
abbrev pub resumed : Picks → List TrackState → List TrackState
resumed picks tracks = map (resumed_track picks) tracks

-- the sample is protected and its key id has no pick
abbrev pub Unpicked : Picks → Option Protect → Type 0
Unpicked picks None = ⊥
Unpicked picks (Some p) = picks p.kid ≡ None

-- there is no head, or the track waits and the head's key id has no pick
abbrev pub HeadAtRest : Picks → TrackState → Option EncSample → Type 0
HeadAtRest picks t None = Unit {0}
HeadAtRest picks t (Some sample) = IsTrue t.waiting × Unpicked picks sample.protect

-- all that was fed is out, or the track waits and its head has no pick
abbrev pub TrackAtRest : Picks → TrackState → Type 0
TrackAtRest picks t = HeadAtRest picks t (head t)

-- the track is there and waits for a key
abbrev pub is_waiting : Option TrackState → Type 0
is_waiting None = ⊥
is_waiting (Some t) = IsTrue t.waiting

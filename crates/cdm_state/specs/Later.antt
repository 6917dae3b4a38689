-- Tracks that wait for a key that is usable later.
use Rattle.std.specs.Prelude.{ℕ, ◌&&◌, Bool, false, Option, Some, None}
use Rattle.eme_types.specs.declared.sample.EncSample.{EncSample}
use Rattle.eme_types.specs.declared.sample.Protect.{Protect}
use Rattle.key_sessions.specs.Machine.{Machine}
use Rattle.key_sessions.specs.Keys.{is_later}
use Rattle.key_sessions.specs.World.{World}
use Rattle.cdm_world.specs.Tracks.{TrackState, head, find_track}

-- the sample is protected, and some session that is not closed holds under its key id a key that is usable later
abbrev pub protect_later : Machine → Option Protect → Bool
protect_later m None = false
protect_later m (Some p) = is_later m p.kid

-- the sample is there, and so is its key, usable later
abbrev pub sample_later : Machine → Option EncSample → Bool
sample_later m None = false
sample_later m (Some sample) = protect_later m sample.protect

-- the track is there and waits, and the key of its head is usable later
abbrev pub track_later : Machine → Option TrackState → Bool
track_later m None = false
track_later m (Some t) = t.waiting && sample_later m (head t)

-- the track waits, and some session that is not closed holds the key of its head with the status `usable-in-future`
abbrev pub waits_later : World → ℕ → Bool
waits_later w track = track_later w.machine (find_track w.tracks track)

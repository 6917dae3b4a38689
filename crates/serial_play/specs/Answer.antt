-- Where the code of the serial play stands.
use Rattle.std.specs.Prelude.{ℕ, ◌+◌, ◌≡◌, ◌↔◌, Bool, true, false, List, [], ◌∷◌, ◌++◌, map, length, drop, slice_get, Option, Some, None, IsTrue}
use Rattle.std.specs.List.{concat, list_all}
use Rattle.eme_types.specs.Fed.{are_well_formed}
use Rattle.eme_types.specs.declared.media.Fragment.{Fragment}
use Rattle.eme_types.specs.declared.media.Media.{Media}
use Rattle.cdm_world.specs.Tracks.{Picks}
use Rattle.key_sessions.specs.Agree.{Agree}
use Rattle.key_sessions.specs.SessionsState.{SessionsState}
use Rattle.script_lang.specs.declared.script.Action.{Action}
use Rattle.script_lang.specs.declared.script.Line.{Line}
use Rattle.script_lang.specs.Script.{moments_rise}
use Rattle.play_parts.specs.Asks.{left_by}
use Rattle.serial_play.specs.Served.{IsIdle, next_step}
use Rattle.serial_play.specs.Serial.{samples_of, samples_in, gives, Serial, unplayed, begun, fed_with, serial_from, AgreeFrom}
use Rattle.serial_play.specs.declared.track.SerialTrack.{SerialTrack}
use Rattle.serial_play.specs.declared.play.SerialPlay.{SerialPlay}

-- a sample gave nothing, or these bytes, which were added
abbrev pub Passes : Option (List ℕ) → List ℕ → Bool → List ℕ → Type 0
Passes None old gives new = (gives ≡ false) × (new ≡ old)
Passes (Some bytes) old gives new = (gives ≡ true) × (new ≡ old ++ bytes)

-- a step of the queued work was done, or nothing is queued
abbrev pub StepsOn : SessionsState → Bool → SessionsState → Type 0
StepsOn old true new = (IsIdle old.machine → ⊥) × (new.machine ≡ (next_step old.machine).machine)
StepsOn old false new = IsIdle old.machine × (new ≡ old)

-- a track without a sample
abbrev pub new_track : ℕ → SerialTrack
new_track track = record { id = track; fed = []; count = 0; bytes = [] }

-- the samples of the track in the fragment are fed
abbrev pub fed_track : Fragment → SerialTrack → SerialTrack
fed_track f t = record t { fed = t.fed ++ samples_of t.id f }

-- the samples in these fragments are fed, each on its track
abbrev pub fed_tracks : List Fragment → List SerialTrack → List SerialTrack
fed_tracks [] tracks = tracks
fed_tracks (f ∷ more) tracks = fed_tracks more (map (fed_track f) tracks)

-- what the samples of the track from its count on give under the picks
abbrev pub gives_on : Picks → SerialTrack → List (List ℕ)
gives_on picks t = gives picks (drop t.count t.fed)

-- the count moves past the samples that give something, and these are out
abbrev pub moved_track : Picks → SerialTrack → SerialTrack
moved_track picks t = record t { count = t.count + length (gives_on picks t); bytes = t.bytes ++ concat (gives_on picks t) }

-- a track where the serial play stands
abbrev pub track_at : Serial → ℕ → SerialTrack
track_at s track = record { id = track; fed = samples_in track s.fed; count = length (s.out track); bytes = concat (s.out track) }

-- the id and the bytes of a track
abbrev pub text_of : SerialTrack → ℕ × List ℕ
text_of t = (t.id, t.bytes)

-- a line did what it asks, but for its job and its tasks
pub record Begins (old : SerialPlay) (action : Action) (new : SerialPlay) : Type 0 where
  pub machine : new.sessions.machine ≡ (begun action (slice_get old.left.now 0) old.sessions.machine).machine
  pub tracks : new.tracks.items ≡ fed_tracks (fed_with action (slice_get old.left.now 0)) old.tracks.items
  pub left : new.left.now ≡ left_by old.left.now action

-- the code stands where the serial play does, on these tracks, and nothing is queued
pub record Stands (tracks_ : List ℕ) (s : Serial) (play : SerialPlay) : Type 0 where
  pub machine : play.sessions.machine ≡ s.machine
  pub idle : IsIdle play.sessions.machine
  pub tracks : play.tracks.items ≡ map (track_at s) tracks_

-- the code has played the script up to these lines: it stands at a state of the serial play from which they lead to its end, and it knows
-- whether the sessions agreed so far
pub record HasPlayed (script : List Line) (media : Media) (lines : List Line) (agreeing : Bool) (play : SerialPlay) : Type 0 where
  pub s : Serial
  pub stands : Stands media.tracks s play
  pub whole : serial_from unplayed media.fragments script ≡ serial_from s play.left.now lines
  pub agree : AgreeFrom unplayed media.fragments script ↔ (IsTrue agreeing × AgreeFrom s play.left.now lines)
  pub agreed : IsTrue agreeing → Agree play.sessions.machine
  pub formed : IsTrue (list_all are_well_formed play.left.now)
  pub moments : IsTrue (moments_rise play.sessions.machine.moment lines)

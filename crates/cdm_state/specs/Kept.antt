-- What the core keeps.
use Rattle.std.specs.Prelude.{ℕ, ◌+◌, ◌≤◌, if◌then◌else◌, List, length, map, IsTrue}
use Rattle.std.specs.List.{sum_by}
use Rattle.eme_types.specs.Fed.{are_distinct}
use Rattle.eme_types.specs.declared.limits.TheConstants.{MAX_SAMPLES}
use Rattle.eme_types.specs.declared.entry.Entry.{Entry}
use Rattle.cdm_world.specs.In.{In}
use Rattle.key_sessions.specs.Machine.{Machine}
use Rattle.key_sessions.specs.World.{World}
use Rattle.key_claims.specs.TracksState.{FedTrack, track_of}
use Rattle.key_claims.specs.TrackValue.{all_left, all_fed}
use Rattle.cdm_state.specs.declared.cdm.Cdm.TheInside.{Inside}
use Rattle.cdm_state.specs.declared.parts.Parts.{Parts}
use Rattle.cdm_state.specs.History.{Undelivered, fed_samples}
use Rattle.cdm_state.specs.Claims.{LegalKept}
use Rattle.cdm_state.specs.Shown.{OutKept}
use Rattle.cdm_state.specs.Run.{Run}

-- the track ids and the entries
abbrev pub run_of : Inside → Run
run_of c = record { tracks = c.ids; history = c.parts.chronicle.entries }

-- a track that does not wait may still begin to
abbrev pub awake_of : FedTrack → ℕ
awake_of t = if t.waiting then 0 else 1

-- the tracks that may still begin to wait
abbrev pub all_awake : List FedTrack → ℕ
all_awake tracks = sum_by awake_of tracks

-- the room that is kept for what may not fail: for n entries, for k events
pub record RoomKept (n k : ℕ) (ts : List FedTrack) (waiting : ℕ) : Type 0 where
  pub entries : waiting + all_left ts + all_awake ts ≤ n
  pub events : all_awake ts ≤ k

-- no more samples are kept than were fed, within the limit, and each claim that waits for its delivery stands in the list
pub record KeptAs (h : List Entry) (ts : List FedTrack) (undelivered : List ℕ) : Type 0 where
  pub limit : fed_samples h ≤ MAX_SAMPLES
  pub fed : all_fed ts ≤ fed_samples h
  pub waits : (c : ℕ) → Undelivered h c → In undelivered c

-- the state, as the algorithms see it
abbrev pub world_of : Machine → List FedTrack → World
world_of m ts = record { machine = m; tracks = map track_of ts }

-- what changes in a core stands to its track ids and its history as the definitions say
abbrev pub KeptIn : List ℕ → Parts → Type 0
KeptIn ids p = RoomKept p.chronicle.room p.sessions.room p.tracks.tracks (length p.undelivered.items) × KeptAs p.chronicle.entries p.tracks.tracks p.undelivered.items × LegalKept ids p.chronicle.entries p.chronicle.effects (world_of p.sessions.machine p.tracks.tracks) p.tracks.claims × IsTrue (are_distinct ids) × OutKept ids p.chronicle.entries p.tracks.tracks p.tracks.claims

abbrev pub Kept : Inside → Type 0
Kept c = KeptIn c.ids c.parts

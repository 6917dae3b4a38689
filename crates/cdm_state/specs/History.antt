-- Histories: the state after one, which claims are live, and which histories are legal.
use Rattle.std.specs.Prelude.{ℕ, ◌+◌, ◌-◌, ◌≡◌, ◌≢◌, ◌<◌, ◌≤◌, ◌↔◌, false, IsTrue, List, [], length, take, slice_get, Option, Some, None, All, Contains}
use Rattle.std.specs.List.{fold, sum_by}
use Rattle.eme_types.specs.declared.kid.KeyBytes.{KeyBytes}
use Rattle.eme_types.specs.declared.sample.EncSample.{EncSample}
use Rattle.eme_types.specs.declared.sample.Protect.{Protect}
use Rattle.eme_types.specs.declared.media.Fragment.{Fragment}
use Rattle.eme_types.specs.declared.entry.Entry.{Entry}
use Rattle.eme_types.specs.declared.entry.Entry.TheVariants.{Call, Job, Task, Tick, Feed, Evict, Claim, Deliver, GiveUp, Publish, PassClear, WaitForKey, Settle}
use Rattle.eme_types.specs.declared.entry.Verdict.TheVariants.{Taken}
use Rattle.eme_types.specs.Fed.{are_known, are_well_formed, fragment_samples, fragment_bytes}
use Rattle.eme_types.specs.declared.limits.TheConstants.{MAX_SAMPLES, MAX_SAMPLE_BYTES, CLAIM_WINDOW}
use Rattle.key_sessions.specs.Keys.{held_key, pick}
use Rattle.cdm_world.specs.Tracks.{TrackState, TrackAtRest, find_track, head}
use Rattle.key_sessions.specs.World.{World, empty_world}
use Rattle.cdm_state.specs.After.{after_entry}

-- the state after a history of a core with these tracks
unfoldable pub world : List ℕ → List Entry → World
world ids h = fold after_entry (empty_world ids) h

-- the entry at the place, from 1, is e
abbrev pub IsAt : List Entry → ℕ → Entry → Type 0
IsAt h place e = (1 ≤ place) × (slice_get h (place - 1) ≡ Some e)

-- entry e ends the claim at the place
abbrev pub Ends : Entry → ℕ → Type 0
Ends (Call lane line call) place = ⊥
Ends Job place = ⊥
Ends Task place = ⊥
Ends (Tick line moment) place = ⊥
Ends (Feed line fragment) place = ⊥
Ends (Evict line label) place = ⊥
Ends (Claim worker track index session kid) place = ⊥
Ends (Deliver p verdict) place = ⊥
Ends (GiveUp p) place = p ≡ place
Ends (Publish track index p) place = p ≡ place
Ends (PassClear track index) place = ⊥
Ends (WaitForKey track) place = ⊥
Ends (Settle line) place = ⊥

-- after entry e the claim at the place no longer waits for its delivery
abbrev pub Spends : Entry → ℕ → Type 0
Spends (Call lane line call) place = ⊥
Spends Job place = ⊥
Spends Task place = ⊥
Spends (Tick line moment) place = ⊥
Spends (Feed line fragment) place = ⊥
Spends (Evict line label) place = ⊥
Spends (Claim worker track index session kid) place = ⊥
Spends (Deliver p verdict) place = p ≡ place
Spends (GiveUp p) place = p ≡ place
Spends (Publish track index p) place = ⊥
Spends (PassClear track index) place = ⊥
Spends (WaitForKey track) place = ⊥
Spends (Settle line) place = ⊥

-- the session that the claim names holds this key usable under the claim's key id
abbrev pub HoldsFor : World → Entry → KeyBytes → Type 0
HoldsFor w (Call lane line call) key = ⊥
HoldsFor w Job key = ⊥
HoldsFor w Task key = ⊥
HoldsFor w (Tick line moment) key = ⊥
HoldsFor w (Feed line fragment) key = ⊥
HoldsFor w (Evict line label) key = ⊥
HoldsFor w (Claim worker track index session kid) key = held_key w.machine session kid ≡ Some key
HoldsFor w (Deliver p verdict) key = ⊥
HoldsFor w (GiveUp p) key = ⊥
HoldsFor w (Publish track index p) key = ⊥
HoldsFor w (PassClear track index) key = ⊥
HoldsFor w (WaitForKey track) key = ⊥
HoldsFor w (Settle line) key = ⊥

-- the claim at the place is live under this key: its session held it usable after every entry since, and nothing ended the claim
pub record LiveAs (ids : List ℕ) (h : List Entry) (place : ℕ) (claim : Entry) (key : KeyBytes) : Type 0 where
  pub at : IsAt h place claim
  pub held : (n : ℕ) → place ≤ n → n ≤ length h → HoldsFor (world ids (take n h)) claim key
  pub unended : (n : ℕ) (e : Entry) → slice_get h n ≡ Some e → Ends e place → ⊥

-- the claim at the place is live
abbrev pub Live : List ℕ → List Entry → ℕ → Type 0
Live ids h place = (claim : Entry) × (key : KeyBytes) × LiveAs ids h place claim key

-- the claim is on this sample
abbrev pub IsOn : Entry → ℕ → ℕ → Type 0
IsOn (Call lane line call) t i = ⊥
IsOn Job t i = ⊥
IsOn Task t i = ⊥
IsOn (Tick line moment) t i = ⊥
IsOn (Feed line fragment) t i = ⊥
IsOn (Evict line label) t i = ⊥
IsOn (Claim worker track index session kid) t i = (track ≡ t) × (index ≡ i)
IsOn (Deliver p verdict) t i = ⊥
IsOn (GiveUp p) t i = ⊥
IsOn (Publish track index p) t i = ⊥
IsOn (PassClear track index) t i = ⊥
IsOn (WaitForKey track) t i = ⊥
IsOn (Settle line) t i = ⊥

-- a live claim is on this sample
pub record LiveOn (ids : List ℕ) (h : List Entry) (place track index : ℕ) : Type 0 where
  pub claim : Entry
  pub key : KeyBytes
  pub live : LiveAs ids h place claim key
  pub on : IsOn claim track index

-- no job and no task is queued, and each track is at rest
pub record AtRest (w : World) : Type 0 where
  pub jobs : w.machine.jobs ≡ []
  pub tasks : w.machine.tasks ≡ []
  pub tracks : All (TrackAtRest (pick w.machine)) w.tracks

-- a claim on a fed, protected sample of the window, under the pick of its key id
pub record MayClaim (ids : List ℕ) (h : List Entry) (track index session : ℕ) (kid : List ℕ) : Type 0 where
  pub state : TrackState
  pub known : find_track (world ids h).tracks track ≡ Some state
  pub sample : EncSample
  pub fed : slice_get state.fed index ≡ Some sample
  pub protect : Protect
  pub protected : sample.protect ≡ Some protect
  pub same_id : protect.kid ≡ kid
  pub from : state.published ≤ index
  pub window : index < state.published + CLAIM_WINDOW
  pub awake : state.waiting ≡ false
  pub key : KeyBytes
  pub picked : pick (world ids h).machine kid ≡ Some (session, key)
  pub free : (place : ℕ) → LiveOn ids h place track index → ⊥

-- the place is a claim's, and no entry delivered it or gave it up
pub record Undelivered (h : List Entry) (place : ℕ) : Type 0 where
  pub worker : ℕ
  pub track : ℕ
  pub index : ℕ
  pub session : ℕ
  pub kid : List ℕ
  pub at : IsAt h place (Claim worker track index session kid)
  pub none : (n : ℕ) (e : Entry) → slice_get h n ≡ Some e → Spends e place → ⊥

-- the next sample of the track, from its live claim that was delivered as taken
pub record MayPublish (ids : List ℕ) (h : List Entry) (track index place : ℕ) : Type 0 where
  pub state : TrackState
  pub known : find_track (world ids h).tracks track ≡ Some state
  pub next : index ≡ state.published
  pub live : LiveOn ids h place track index
  pub delivered : Contains h (Deliver place Taken)

-- the next sample of the track, which is unprotected
pub record MayPassClear (ids : List ℕ) (h : List Entry) (track index : ℕ) : Type 0 where
  pub state : TrackState
  pub known : find_track (world ids h).tracks track ≡ Some state
  pub next : index ≡ state.published
  pub sample : EncSample
  pub fed : head state ≡ Some sample
  pub clear : sample.protect ≡ None

-- the track's head is protected, has no live claim, and its key id has no pick
pub record MayWait (ids : List ℕ) (h : List Entry) (track : ℕ) : Type 0 where
  pub state : TrackState
  pub known : find_track (world ids h).tracks track ≡ Some state
  pub awake : state.waiting ≡ false
  pub sample : EncSample
  pub fed : head state ≡ Some sample
  pub protect : Protect
  pub protected : sample.protect ≡ Some protect
  pub unpicked : pick (world ids h).machine protect.kid ≡ None
  pub free : (place : ℕ) → LiveOn ids h place track state.published → ⊥

-- the samples of a feed
abbrev pub samples_in : Option Fragment → ℕ
samples_in None = 0
samples_in (Some f) = fragment_samples f

-- the bytes of its samples
abbrev pub bytes_in : Option Fragment → ℕ
bytes_in None = 0
bytes_in (Some f) = fragment_bytes f

-- the samples that the entry feeds
abbrev pub fed_samples_of : Entry → ℕ
fed_samples_of (Call lane line call) = 0
fed_samples_of Job = 0
fed_samples_of Task = 0
fed_samples_of (Tick line moment) = 0
fed_samples_of (Feed line fragment) = samples_in fragment
fed_samples_of (Evict line label) = 0
fed_samples_of (Claim worker track index session kid) = 0
fed_samples_of (Deliver p verdict) = 0
fed_samples_of (GiveUp p) = 0
fed_samples_of (Publish track index p) = 0
fed_samples_of (PassClear track index) = 0
fed_samples_of (WaitForKey track) = 0
fed_samples_of (Settle line) = 0

-- the bytes that the entry feeds
abbrev pub fed_bytes_of : Entry → ℕ
fed_bytes_of (Call lane line call) = 0
fed_bytes_of Job = 0
fed_bytes_of Task = 0
fed_bytes_of (Tick line moment) = 0
fed_bytes_of (Feed line fragment) = bytes_in fragment
fed_bytes_of (Evict line label) = 0
fed_bytes_of (Claim worker track index session kid) = 0
fed_bytes_of (Deliver p verdict) = 0
fed_bytes_of (GiveUp p) = 0
fed_bytes_of (Publish track index p) = 0
fed_bytes_of (PassClear track index) = 0
fed_bytes_of (WaitForKey track) = 0
fed_bytes_of (Settle line) = 0

-- the samples of all that was fed
abbrev pub fed_samples : List Entry → ℕ
fed_samples h = sum_by fed_samples_of h

-- their bytes
abbrev pub fed_bytes : List Entry → ℕ
fed_bytes h = sum_by fed_bytes_of h

-- known tracks, well-formed samples, and totals inside the limits
pub record MayFeed (ids : List ℕ) (h : List Entry) (f : Fragment) : Type 0 where
  pub known : IsTrue (are_known ids f)
  pub formed : IsTrue (are_well_formed f)
  pub samples : fed_samples h + fragment_samples f ≤ MAX_SAMPLES
  pub bytes : fed_bytes h + fragment_bytes f ≤ MAX_SAMPLE_BYTES

-- a fragment that may be fed, or none
abbrev pub MayFeedNext : List ℕ → List Entry → Option Fragment → Type 0
MayFeedNext ids h None = Unit {0}
MayFeedNext ids h (Some f) = MayFeed ids h f

-- what may come after a history
abbrev pub Allowed : List ℕ → List Entry → Entry → Type 0
Allowed ids h (Call lane line call) = Unit {0}
Allowed ids h Job = (world ids h).machine.jobs ≢ []
Allowed ids h Task = (world ids h).machine.tasks ≢ []
Allowed ids h (Tick line moment) = (world ids h).machine.moment ≤ moment
Allowed ids h (Feed line fragment) = MayFeedNext ids h fragment
Allowed ids h (Evict line label) = Unit {0}
Allowed ids h (Claim worker track index session kid) = MayClaim ids h track index session kid
Allowed ids h (Deliver place verdict) = Undelivered h place × ((verdict ≡ Taken) ↔ Live ids h place)
Allowed ids h (GiveUp place) = Undelivered h place
Allowed ids h (Publish track index place) = MayPublish ids h track index place
Allowed ids h (PassClear track index) = MayPassClear ids h track index
Allowed ids h (WaitForKey track) = MayWait ids h track
Allowed ids h (Settle line) = AtRest (world ids h)

-- each entry is allowed after those before it
unfoldable pub IsLegal : List ℕ → List Entry → Type 0
IsLegal ids h = (n : ℕ) (e : Entry) → slice_get h n ≡ Some e → Allowed ids (take n h) e

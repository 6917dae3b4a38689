-- What was fed, claimed and published on a track, by the history alone.
use Rattle.std.specs.Prelude.{ℕ, ◌≡◌, ◌==◌, if◌then◌else◌, List, [], ◌++◌, length, flat_map, Some}
use Rattle.eme_types.specs.declared.kid.KeyBytes.{KeyBytes}
use Rattle.eme_types.specs.declared.sample.EncSample.{EncSample}
use Rattle.eme_types.specs.declared.sample.Protect.{Protect}
use Rattle.eme_types.specs.declared.media.TrackPart.{TrackPart}
use Rattle.eme_types.specs.declared.entry.Entry.{Entry}
use Rattle.eme_types.specs.declared.entry.Entry.TheVariants.{Call, Job, Task, Tick, Feed, Evict, Claim, Deliver, GiveUp, Publish, PassClear, WaitForKey, Settle}
use Rattle.key_sessions.specs.Keys.{held_key}
use Rattle.cdm_world.specs.Tracks.{TrackState, find_track}
use Rattle.cdm_state.specs.Feeds.{parts_in}
use Rattle.cdm_state.specs.History.{world, IsAt, IsLegal, LiveOn}
use Rattle.cdm_state.specs.Output.{fed_sample, claim_key, out_from, out}

-- the samples of the part, if it is of this track
abbrev pub part_on : ℕ → TrackPart → List EncSample
part_on track p = if p.track == track then p.samples else []

-- the samples that the entry feeds on the track
abbrev pub samples_on : ℕ → Entry → List EncSample
samples_on track (Call lane line call) = []
samples_on track Job = []
samples_on track Task = []
samples_on track (Tick line moment) = []
samples_on track (Feed line fragment) = flat_map (part_on track) (parts_in fragment)
samples_on track (Evict line label) = []
samples_on track (Claim worker t index session kid) = []
samples_on track (Deliver place verdict) = []
samples_on track (GiveUp place) = []
samples_on track (Publish t index place) = []
samples_on track (PassClear t index) = []
samples_on track (WaitForKey t) = []
samples_on track (Settle line) = []

-- the samples of a track are those of the feeds, in order
abbrev pub FedInOrder : Type 0
FedInOrder = (ids : List ℕ) (h : List Entry) (track : ℕ) (t : TrackState) → find_track (world ids h).tracks track ≡ Some t → t.fed ≡ flat_map (samples_on track) h

-- the claim at the place is of this sample: the sample was fed there and is protected under the key id of the claim, whose session
-- holds now the key that it held when the claim was made
pub record IsOfItsSample (ids : List ℕ) (h : List Entry) (place track index : ℕ) : Type 0 where
  pub worker : ℕ
  pub session : ℕ
  pub sample : EncSample
  pub protect : Protect
  pub key : KeyBytes
  pub at : IsAt h place (Claim worker track index session protect.kid)
  pub fed : fed_sample (world ids h) track index ≡ Some sample
  pub protected : sample.protect ≡ Some protect
  pub held : held_key (world ids h).machine session protect.kid ≡ Some key
  pub claimed : claim_key ids h place ≡ Some key

-- a live claim is of its sample
abbrev pub LiveClaimsAreOfTheirSamples : Type 0
LiveClaimsAreOfTheirSamples = (ids : List ℕ) (h : List Entry) (place track index : ℕ) → IsLegal ids h → LiveOn ids h place track index → IsOfItsSample ids h place track index

-- as many samples of a track are published as are out
abbrev pub PublishedAreOut : Type 0
PublishedAreOut = (ids : List ℕ) (h : List Entry) (track : ℕ) (t : TrackState) → IsLegal ids h → find_track (world ids h).tracks track ≡ Some t → t.published ≡ length (out ids h track)

-- what is out of a history begins what is out of every longer one, and what its further entries put out follows
abbrev pub OutGoesOn : Type 0
OutGoesOn = (ids : List ℕ) (h es : List Entry) (track : ℕ) → out ids (h ++ es) track ≡ out ids h track ++ out_from ids h track es

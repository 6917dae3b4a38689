-- What a history puts out on each track.
use Rattle.std.specs.Prelude.{ℕ, ◌-◌, ◌==◌, if◌then◌else◌, List, [], ◌∷◌, ◌++◌, take, slice_get, Option, Some, None}
use Rattle.eme_types.specs.declared.kid.KeyBytes.{KeyBytes}
use Rattle.eme_types.specs.declared.sample.EncSample.{EncSample}
use Rattle.eme_types.specs.declared.entry.Entry.{Entry}
use Rattle.eme_types.specs.declared.entry.Entry.TheVariants.{Call, Job, Task, Tick, Feed, Evict, Claim, Deliver, GiveUp, Publish, PassClear, WaitForKey, Settle}
use Rattle.sample_crypt.specs.Decryption.{decryption}
use Rattle.key_sessions.specs.Keys.{held_key}
use Rattle.cdm_world.specs.Tracks.{TrackState, find_track}
use Rattle.key_sessions.specs.World.{World}
use Rattle.cdm_state.specs.History.{world}

-- the sample at an index of a track, if both are there
abbrev pub fed_at : Option TrackState → ℕ → Option EncSample
fed_at None index = None
fed_at (Some t) index = slice_get t.fed index

-- the sample that was fed on a track at an index
abbrev pub fed_sample : World → ℕ → ℕ → Option EncSample
fed_sample w track index = fed_at (find_track w.tracks track) index

-- the key that the session named by a claim holds for it
abbrev pub key_for : World → Option Entry → Option KeyBytes
key_for w None = None
key_for w (Some (Call lane line call)) = None
key_for w (Some Job) = None
key_for w (Some Task) = None
key_for w (Some (Tick line moment)) = None
key_for w (Some (Feed line fragment)) = None
key_for w (Some (Evict line label)) = None
key_for w (Some (Claim worker track index session kid)) = held_key w.machine session kid
key_for w (Some (Deliver p verdict)) = None
key_for w (Some (GiveUp p)) = None
key_for w (Some (Publish track index p)) = None
key_for w (Some (PassClear track index)) = None
key_for w (Some (WaitForKey track)) = None
key_for w (Some (Settle line)) = None

-- the key of the claim at the place: the one that its session held after the entries up to the claim
abbrev pub claim_key : List ℕ → List Entry → ℕ → Option KeyBytes
claim_key ids h place = key_for (world ids (take place h)) (slice_get h (place - 1))

-- the sample decrypted, if it and its key are there
abbrev pub opened : Option EncSample → Option KeyBytes → List (List ℕ)
opened None key = []
opened (Some sample) None = []
opened (Some sample) (Some key) = decryption sample key ∷ []

-- the bytes of a clear sample, if it is there
abbrev pub data_of : Option EncSample → List (List ℕ)
data_of None = []
data_of (Some sample) = sample.bytes ∷ []

-- what entry e puts out on track t after the history h: a decrypted sample, a clear one, or nothing
abbrev pub output_of : List ℕ → List Entry → ℕ → Entry → List (List ℕ)
output_of ids h t (Call lane line call) = []
output_of ids h t Job = []
output_of ids h t Task = []
output_of ids h t (Tick line moment) = []
output_of ids h t (Feed line fragment) = []
output_of ids h t (Evict line label) = []
output_of ids h t (Claim worker track index session kid) = []
output_of ids h t (Deliver p verdict) = []
output_of ids h t (GiveUp p) = []
output_of ids h t (Publish track index p) = if track == t then opened (fed_sample (world ids h) track index) (claim_key ids h p) else []
output_of ids h t (PassClear track index) = if track == t then data_of (fed_sample (world ids h) track index) else []
output_of ids h t (WaitForKey track) = []
output_of ids h t (Settle line) = []

-- what the entries of es put out on track t, behind the history h
abbrev pub out_from : List ℕ → List Entry → ℕ → List Entry → List (List ℕ)
out_from ids h t [] = []
out_from ids h t (e ∷ es) = output_of ids h t e ++ out_from ids (h ++ e ∷ []) t es

-- the samples that are out on track t, in order
unfoldable pub out : List ℕ → List Entry → ℕ → List (List ℕ)
out ids h t = out_from ids [] t h

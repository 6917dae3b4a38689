-- The summary: how many entries and promises there are, and what is out on each track.
use Rattle.std.specs.Prelude.{ℕ, Bool, true, false, not, List, ◌++◌, length, Option, Some, None, codes, count_by}
use Rattle.std.specs.List.{sum_by, flat_map}
use Rattle.std.specs.Fmt.{decimal}
use Rattle.eme_types.specs.declared.call.Settled.{Settled}
use Rattle.eme_types.specs.declared.call.Settled.TheVariants.{Rejected}
use Rattle.eme_types.specs.declared.call.Effect.{Effect}
use Rattle.eme_types.specs.declared.call.Effect.TheVariants.{Promise}
use Rattle.eme_types.specs.declared.entry.Entry.{Entry}
use Rattle.cdm_world.specs.Tracks.{TrackState, find_track}
use Rattle.cdm_state.specs.History.{world}
use Rattle.cdm_state.specs.Later.{waits_later}
use Rattle.cdm_state.specs.Output.{out}
use Rattle.cdm_state.specs.Settlements.{effects_in, calls_in}

-- the promise was rejected
abbrev pub is_rejected : Settled → Bool
is_rejected (Rejected error) = true
is_rejected how = false

-- the effect resolves a promise
abbrev pub resolves : Effect → Bool
resolves (Promise promise how) = not (is_rejected how)
resolves effect = false

-- the effect rejects a promise
abbrev pub rejects : Effect → Bool
rejects (Promise promise how) = is_rejected how
rejects effect = false

-- how often a promise is resolved in a history
abbrev pub times_resolved : List ℕ → List Entry → ℕ
times_resolved ids h = sum_by (count_by resolves) (effects_in ids h)

-- how often a promise is rejected in a history
abbrev pub times_rejected : List ℕ → List Entry → ℕ
times_rejected ids h = sum_by (count_by rejects) (effects_in ids h)

-- the track is there and waits for a key
abbrev pub waits : Option TrackState → Bool
waits None = false
waits (Some t) = t.waiting

-- whether a track waits for a key: it does not; it does; it does, and the key is usable later
abbrev pub waiting_word : Bool → Bool → List ℕ
waiting_word false later = codes "no"
waiting_word true false = codes "yes"
waiting_word true true = codes "later"

-- the line of a track: the samples that are out, their bytes, and whether the track waits for a key
abbrev pub track_line : List ℕ → List Entry → ℕ → List ℕ
track_line ids h t = codes "track " ++ (decimal t ++ (codes " samples " ++ (decimal (length (out ids h t)) ++ (codes " bytes " ++ (decimal (sum_by length (out ids h t)) ++ (codes " waiting " ++ (waiting_word (waits (find_track (world ids h).tracks t)) (waits_later (world ids h) t) ++ codes "\n")))))))

-- one promise for each call
abbrev pub summary_head : List ℕ → List Entry → List ℕ
summary_head ids h = codes "entries " ++ (decimal (length h) ++ (codes "\npromises " ++ (decimal (calls_in h) ++ (codes " resolved " ++ (decimal (times_resolved ids h) ++ (codes " rejected " ++ (decimal (times_rejected ids h) ++ codes "\n")))))))

-- the summary of a history; the tracks in order
unfoldable pub summary_of : List ℕ → List Entry → List ℕ
summary_of ids h = summary_head ids h ++ flat_map (track_line ids h) ids

-- Laws of histories.
use Rattle.std.specs.Prelude.{ℕ, ◌≡◌, ◌≤◌, ◌<◌, ◌+◌, ◌++◌, List, length, slice_get, Some}
use Rattle.eme_types.specs.declared.entry.Entry.{Entry}
use Rattle.eme_types.specs.declared.entry.Entry.TheVariants.{Tick}
use Rattle.eme_types.specs.declared.limits.TheConstants.{CLAIM_WINDOW}
use Rattle.key_sessions.specs.Owed.{IsOwed}
use Rattle.cdm_world.specs.Tracks.{TrackState, find_track}
use Rattle.cdm_state.specs.History.{world, IsLegal, AtRest, LiveOn}
use Rattle.cdm_state.specs.Moment.{last_moment}
use Rattle.cdm_state.specs.Settlements.{settlements, calls_in}

-- no promise is settled twice
abbrev pub SettlesAtMostOnce : Type 0
SettlesAtMostOnce = (ids : List ℕ) (h : List Entry) (p : ℕ) → IsLegal ids h → length (settlements ids h p) ≤ 1

-- after a history that ends at rest the promise of each call was settled, once
abbrev pub SettlesEachOnce : Type 0
SettlesEachOnce = (ids : List ℕ) (h : List Entry) (p : ℕ) → IsLegal ids h → AtRest (world ids h) → 1 ≤ p → p ≤ calls_in h → length (settlements ids h p) ≡ 1

-- the moment after a history is that of its last tick
abbrev pub MomentIsOfLastTick : Type 0
MomentIsOfLastTick = (ids : List ℕ) (h : List Entry) → (world ids h).machine.moment ≡ last_moment h

-- each pending promise stands in exactly one queued job or task, and a settled one in none
abbrev pub OwesEachOnce : Type 0
OwesEachOnce = (ids : List ℕ) (h : List Entry) → IsLegal ids h → IsOwed (world ids h).machine

-- a sample has at most one live claim
abbrev pub ClaimsEachOnce : Type 0
ClaimsEachOnce = (ids : List ℕ) (h : List Entry) (track index p q : ℕ) → IsLegal ids h → LiveOn ids h p track index → LiveOn ids h q track index → p ≡ q

-- the index of a live claim is at least the published count of its track and in the window behind it
abbrev pub ClaimsInTheWindow : Type 0
ClaimsInTheWindow = (ids : List ℕ) (h : List Entry) (track index p : ℕ) (t : TrackState) → IsLegal ids h → LiveOn ids h p track index → find_track (world ids h).tracks track ≡ Some t → (t.published ≤ index) × (index < t.published + CLAIM_WINDOW)

-- each front of a legal history is legal
abbrev pub FrontsAreLegal : Type 0
FrontsAreLegal = (ids : List ℕ) (h es : List Entry) → IsLegal ids (h ++ es) → IsLegal ids h

-- the moment after a legal history is at least that of each of its ticks
abbrev pub MomentIsPastEachTick : Type 0
MomentIsPastEachTick = (ids : List ℕ) (h : List Entry) (n line moment : ℕ) → IsLegal ids h → slice_get h n ≡ Some (Tick line moment) → moment ≤ (world ids h).machine.moment

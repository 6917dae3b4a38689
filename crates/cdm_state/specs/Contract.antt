-- What the calls of the core ask and answer.
use Rattle.std.specs.Prelude.{ℕ, ◌≡◌, ◌≢◌, ◌+◌, ◌<◌, ◌≤◌, IsTrue, List, [], length, take, slice_get, slice_index_or, Some}
use Rattle.eme_types.specs.WellFormed.{is_well_formed}
use Rattle.eme_types.specs.declared.entry.Entry.TheVariants.{Claim, Deliver}
use Rattle.eme_types.specs.declared.entry.Verdict.TheVariants.{Taken as TakenVerdict, Stale as StaleVerdict}
use Rattle.key_claims.specs.declared.claim.Delivered.{Delivered}
use Rattle.key_claims.specs.declared.claim.Delivered.TheVariants.{Taken, Stale}
use Rattle.key_claims.specs.declared.claim.Claim.{Claim as Held}
use Rattle.cdm_state.specs.declared.cdm.SettleFault.{SettleFault}
use Rattle.cdm_state.specs.declared.cdm.SettleFault.TheVariants.{Job, Task, Track, OutOfMemory}
use Rattle.key_sessions.specs.Keys.{held_key, pick}
use Rattle.cdm_world.specs.Tracks.{TrackState, TrackAtRest}
use Rattle.key_sessions.specs.World.{World}
use Rattle.cdm_state.specs.Output.{fed_sample}
use Rattle.cdm_state.specs.History.{world, IsAt, Undelivered, Live, AtRest, MayClaim}
use Rattle.cdm_state.specs.Run.{Run, with_entry}

-- the claim stands in the history, under the key that its session held then, on the sample that was fed
pub record Stands (r : Run) (c : Held) : Type 0 where
  pub kid : List ℕ
  pub at : IsAt r.history c.place (Claim c.worker c.track c.index c.session kid)
  pub key : held_key (world r.tracks (take c.place r.history)).machine c.session kid ≡ Some c.key
  pub sample : fed_sample (world r.tracks (take c.place r.history)) c.track c.index ≡ Some c.sample
  pub formed : IsTrue (is_well_formed c.sample)

-- it waits for its delivery
pub record IsOpen (r : Run) (c : Held) : Type 0 where
  pub stands : Stands r c
  pub waits : Undelivered r.history c.place

-- in the list of ids this track stands at or before each place of the other
abbrev pub ComesFirst : List ℕ → ℕ → ℕ → Type 0
ComesFirst ids track other = (i : ℕ) → slice_get ids i ≡ Some other → (j : ℕ) × (j ≤ i) × (slice_get ids j ≡ Some track)

-- what a claim answers and leaves: the entry with its numbers, at its place; it waits for its delivery. Of all samples that may be
-- claimed it is of the first track, and there the one of least index
pub record Claims (old : Run) (worker : ℕ) (c : Held) (new : Run) : Type 0 where
  pub kid : List ℕ
  pub entry : new ≡ with_entry old (Claim worker c.track c.index c.session kid)
  pub worker_ : c.worker ≡ worker
  pub place : c.place ≡ length old.history + 1
  pub open_ : IsOpen new c
  pub first : (track index session : ℕ) (other : List ℕ) → MayClaim old.tracks old.history track index session other → ComesFirst old.tracks c.track track × (track ≡ c.track → c.index ≤ index)

-- what a delivery answers and leaves: it is taken just where the claim is live, and bytes that come too late are handed back
abbrev pub Delivers : Run → ℕ → List ℕ → Delivered → Run → Type 0
Delivers r place clear Taken s = Live r.tracks r.history place × (s ≡ with_entry r (Deliver place TakenVerdict))
Delivers r place clear (Stale back) s = (Live r.tracks r.history place → ⊥) × (s ≡ with_entry r (Deliver place StaleVerdict)) × (back ≡ clear)

-- the first track of the world that is not at rest has this id
pub record FirstBusy (w : World) (track : ℕ) : Type 0 where
  pub at : ℕ
  pub within : at < length w.tracks
  pub id : (d : TrackState) → (slice_index_or w.tracks at d).id ≡ track
  pub busy : (d : TrackState) → TrackAtRest (pick w.machine) (slice_index_or w.tracks at d) → ⊥
  pub before : (k : ℕ) (d : TrackState) → k < at → TrackAtRest (pick w.machine) (slice_index_or w.tracks k d)

-- why a world has not settled: the first of a queued job, a queued task, a track that is not at rest. Memory is wanted at rest only
abbrev pub HasNotSettled : World → SettleFault → Type 0
HasNotSettled w Job = w.machine.jobs ≢ []
HasNotSettled w Task = (w.machine.jobs ≡ []) × (w.machine.tasks ≢ [])
HasNotSettled w (Track id) = (w.machine.jobs ≡ []) × (w.machine.tasks ≡ []) × FirstBusy w id
HasNotSettled w OutOfMemory = AtRest w

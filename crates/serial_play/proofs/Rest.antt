-- Where a history stands in a paced script: at rest between two lines, or in the midst of one.
use Rattle.std.proofs.Common.{◌≡◌, ℕ, ◌≤◌, ◌⊎◌, inl, inr, List, [], ◌∷◌, ◌++◌, length, drop, Some, refl, ap, sym, subst, ◌∙◌, append-nil}
use Rattle.std.specs.Prelude.{map}
use Rattle.std.specs.List.{filter, flat_map}
use Rattle.std.proofs.lemmas.Bool.Decides.{eqb_tells}
use Rattle.std.proofs.lemmas.List.Concat.{flat_map-append}
use Rattle.eme_types.specs.declared.sample.EncSample.{EncSample}
use Rattle.eme_types.specs.declared.call.Effect.{Effect}
use Rattle.eme_types.specs.declared.entry.Entry.{Entry}
use Rattle.task_queue.specs.declared.work.Job.{Job}
use Rattle.key_sessions.specs.Machine.{Machine}
use Rattle.key_sessions.specs.Steps.{Done}
use Rattle.key_sessions.specs.Keys.{pick}
use Rattle.key_sessions.specs.World.{World}
use Rattle.cdm_world.specs.In.{In}
use Rattle.cdm_world.specs.Tracks.{TrackState, TrackAtRest, find_track}
use Rattle.cdm_state.specs.After.{after_entry, effects_of}
use Rattle.cdm_state.specs.History.{world, AtRest}
use Rattle.cdm_state.specs.Output.{out}
use Rattle.cdm_state.specs.OfSamples.{samples_on}
use Rattle.cdm_state.specs.Settlements.{effects_in}
use Rattle.cdm_state.proofs.Histories.{world_more, effects_more}
use Rattle.cdm_state.proofs.TrackIds.{state_id, world_ids}
use Rattle.output_order.specs.Complete.{IsFront}
use Rattle.serial_play.specs.Served.{is_heard, quiet, served}
use Rattle.serial_play.specs.Serial.{Serial, so_far, samples_in, gives}
use Rattle.serial_play.specs.Law.{heard_in}
use Rattle.serial_play.proofs.Keyless.{ClosersKeyless}

-- this machine, after these effects
abbrev pub done_as : Machine → List Effect → Done
done_as m effects = record { machine = m; effects = effects }

-- what the sessions of a history come to and did, without the `waitingforkey` events
abbrev pub seen_of : List ℕ → List Entry → Done
seen_of ids g = done_as (quiet (world ids g).machine) (heard_in ids g)

-- the history is at rest, and stands where the serial play does between two lines
pub record Rest (ids : List ℕ) (g : List Entry) (s : Serial) : Type 0 where
  pub rest : AtRest (world ids g)
  pub seen : seen_of ids g ≡ so_far s
  pub fed : (id : ℕ) → flat_map (samples_on id) g ≡ samples_in id s.fed
  pub outputs : (id : ℕ) → In ids id → out ids g id ≡ s.out id

-- the job of a call is queued and nothing else, and each track is at rest
pub record Before (w : World) : Type 0 where
  pub job : Job
  pub jobs : w.machine.jobs ≡ job ∷ []
  pub tasks : w.machine.tasks ≡ []
  pub tracks : (id : ℕ) (u : TrackState) → find_track w.tracks id ≡ Some u → TrackAtRest (pick w.machine) u

-- no job is queued, and no queued task takes a key away
pub record Final (m : Machine) : Type 0 where
  pub jobs : m.jobs ≡ []
  pub keyless : ClosersKeyless m

-- the job of a call is still to be done, or no key changes any more
abbrev pub Phase : World → Type 0
Phase w = Before w ⊎ Final w.machine

-- the line that leads from s to t is being done: what is queued leads to the sessions of t, and what is out is a front of what is out there
pub record Busy (ids : List ℕ) (g : List Entry) (s t : Serial) : Type 0 where
  pub seen : served (seen_of ids g) ≡ so_far t
  pub fed : (id : ℕ) → flat_map (samples_on id) g ≡ samples_in id t.fed
  pub moved : (id : ℕ) → t.out id ≡ s.out id ++ gives (pick t.machine) (drop (length (s.out id)) (samples_in id t.fed))
  pub front : (id : ℕ) → In ids id → IsFront (out ids g id) (t.out id)
  pub past : (id : ℕ) → In ids id → length (s.out id) ≤ length (out ids g id)
  pub phase : Phase (world ids g)

-- ---- one more entry

-- what is seen after one more entry
abbrev pub seen_after : List ℕ → List Entry → Entry → Done
seen_after ids g e = done_as (quiet (after_entry (world ids g) e).machine) (heard_in ids g ++ filter is_heard (effects_of (world ids g) e))

heard_more : (ids : List ℕ) (g : List Entry) (e : Entry) → heard_in ids (g ++ e ∷ []) ≡ heard_in ids g ++ filter is_heard (effects_of (world ids g) e)
heard_more ids g e =
    let fx : List Effect = effects_of (world ids g) e in
    ap (flat_map (filter is_heard)) (effects_more ids g e) ∙ (flat_map-append (filter is_heard) (effects_in ids g) (fx ∷ []) ∙ ap (λ (xs : List Effect). heard_in ids g ++ xs) (append-nil (filter is_heard fx)))

pub seen_more : (ids : List ℕ) (g : List Entry) (e : Entry) → seen_of ids (g ++ e ∷ []) ≡ seen_after ids g e
seen_more ids g e =
    ap (λ (w : World). done_as (quiet w.machine) (heard_in ids (g ++ e ∷ []))) (world_more ids g e) ∙ ap (done_as (quiet (after_entry (world ids g) e).machine)) (heard_more ids g e)

-- what was fed after it
pub fed_behind : (id : ℕ) (g : List Entry) (e : Entry) → flat_map (samples_on id) (g ++ e ∷ []) ≡ flat_map (samples_on id) g ++ samples_on id e
fed_behind id g e = flat_map-append (samples_on id) g (e ∷ []) ∙ ap (λ (xs : List EncSample). flat_map (samples_on id) g ++ xs) (append-nil (samples_on id e))

-- ---- tracks by their ids

found_by : (ts : List TrackState) (id : ℕ) → In (map state_id ts) id → (u : TrackState) × (find_track ts id ≡ Some u)
found_by [] id there = absurd there
found_by (t ∷ ts) id there = elim (eqb_tells t.id id) [
  | inl p ↦ (t, rw p.0 refl)
  | inr p ↦ elim there [ inl same ↦ absurd (p.1 same) | inr more ↦ (let r = found_by ts id more in (r.0, rw p.0 r.1)) ]
]

-- each id finds its track
pub found_known : (ids : List ℕ) (h : List Entry) (id : ℕ) → In ids id → (u : TrackState) × (find_track (world ids h).tracks id ≡ Some u)
found_known ids h id there = found_by (world ids h).tracks id (subst (λ (xs : List ℕ). In xs id) (sym (world_ids ids h)) there)

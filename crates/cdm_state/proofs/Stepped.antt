-- What the core keeps after a step of the sessions.
use Rattle.std.proofs.Common.{◌≡◌, ◌∙◌, ℕ, ◌+◌, ◌≤◌, Bool, true, false, List, [], ◌∷◌, ◌++◌, length, refl, ap, sym, subst, arith, map}
use Rattle.std.specs.Prelude.{filter, if◌then◌else◌}
use Rattle.eme_types.specs.declared.call.AppCall.{AppCall}
use Rattle.eme_types.specs.declared.entry.Entry.{Entry}
use Rattle.eme_types.specs.declared.entry.Entry.TheVariants.{Call, Job, Task, Tick, Evict}
use Rattle.cdm_world.specs.Tracks.{TrackState, resumed}
use Rattle.task_queue.specs.declared.work.Task.{Task as Queued}
use Rattle.task_queue.specs.declared.work.Task.TheVariants.{Reject, RequestDone, UpdateDone, CloseDone, RemoveDone, Evicted, Report, Fire, Resume}
use Rattle.key_sessions.specs.Machine.{Machine}
use Rattle.cdm_world.specs.Lost.{AreLost}
use Rattle.key_sessions.specs.Keys.{pick, held_key}
use Rattle.key_sessions.specs.Steps.{Done}
use Rattle.key_sessions.specs.Tasks.{after_task, take_task}
use Rattle.key_sessions.specs.SessionsState.{SessionsState, HasStepped}
use Rattle.key_sessions.specs.World.{Stepped, resumes}
use Rattle.key_claims.specs.TracksState.{FedTrack, track_of}
use Rattle.key_claims.specs.Changes.{resumed_one}
use Rattle.key_claims.specs.Claims.{revoke_all}
use Rattle.cdm_state.specs.declared.parts.Parts.{Parts}
use Rattle.cdm_state.specs.After.{step}
use Rattle.cdm_state.specs.Slots.{holds_still}
use Rattle.cdm_state.specs.Chronicle.{ChronicleState, HasRoomFor}
use Rattle.cdm_state.specs.History.{Allowed, Ends, Spends, fed_samples_of}
use Rattle.cdm_state.specs.Output.{output_of}
use Rattle.cdm_state.specs.Shown.{SameOut}
use Rattle.cdm_state.specs.Kept.{world_of, all_awake, KeptIn}
use Rattle.cdm_state.proofs.Places.{IsPlain, kept_more}
use Rattle.cdm_state.proofs.TrackLists.{SameRoom, awake_within, resumed_states}
use Rattle.cdm_state.proofs.Revoking.{claims_left}
use Rattle.cdm_state.proofs.Legal.{legal_stepped}
use Rattle.cdm_state.proofs.OutOn.{out_plain, fewer_filter}

-- the entry touches no claim by itself, feeds nothing and puts nothing out
pub record IsQuiet (e : Entry) : Type 0 where
  pub plain : IsPlain e
  pub ends : (place : ℕ) → Ends e place → ⊥
  pub spends : (place : ℕ) → Spends e place → ⊥
  pub feeds : fed_samples_of e ≡ 0
  pub shows : (ids : List ℕ) (h : List Entry) (t : ℕ) → output_of ids h t e ≡ []

pub call_quiet : (lane line : ℕ) (call : AppCall) → IsQuiet (Call lane line call)
call_quiet lane line call = record { plain = λ w t i n k x. cc; ends = λ p x. x; spends = λ p x. x; feeds = refl; shows = λ ids h t. refl }

pub job_quiet : IsQuiet Job
job_quiet = record { plain = λ w t i n k x. cc; ends = λ p x. x; spends = λ p x. x; feeds = refl; shows = λ ids h t. refl }

pub task_quiet : IsQuiet Task
task_quiet = record { plain = λ w t i n k x. cc; ends = λ p x. x; spends = λ p x. x; feeds = refl; shows = λ ids h t. refl }

pub tick_quiet : (line moment : ℕ) → IsQuiet (Tick line moment)
tick_quiet line moment = record { plain = λ w t i n k x. cc; ends = λ p x. x; spends = λ p x. x; feeds = refl; shows = λ ids h t. refl }

pub evict_quiet : (line : ℕ) (label : List ℕ) → IsQuiet (Evict line label)
evict_quiet line label = record { plain = λ w t i n k x. cc; ends = λ p x. x; spends = λ p x. x; feeds = refl; shows = λ ids h t. refl }

-- a step of the sessions: what it did, the sessions and the tracks after it, and the room and the entries of the chronicle before and after its entry
pub record Steps (ids : List ℕ) (p : Parts) (e : Entry) (d : Done) (s : SessionsState) (us : List FedTrack) (c next : ChronicleState) : Type 0 where
  pub before : SessionsState
  pub same : before.machine ≡ p.sessions.machine
  pub allowed : Allowed ids p.chronicle.entries e
  pub quiet : IsQuiet e
  pub does : step (world_of p.sessions.machine p.tracks.tracks) e ≡ record { world = world_of d.machine us; effects = d.effects }
  pub stepped : HasStepped before s d
  pub events : all_awake us ≤ s.room
  pub room : SameRoom p.tracks.tracks us
  pub out : SameOut p.tracks.tracks us
  pub reserved : HasRoomFor c (length p.undelivered.items) p.tracks.tracks 1
  pub taken : c.room ≤ next.room + 1
  pub entries : next.entries ≡ p.chronicle.entries ++ e ∷ []
  pub effects : next.effects ≡ p.chronicle.effects ++ s.effects ∷ []

pub kept_stepped : (ids : List ℕ) (p : Parts) (e : Entry) (d : Done) (s : SessionsState) (us : List FedTrack) (c next : ChronicleState) → KeptIn ids p → Steps ids p e d s us c next → KeptIn ids (record p { chronicle = next; sessions = record s { effects = []; lost = [] }; tracks = record (p.tracks) { tracks = us; claims = revoke_all s.lost p.tracks.claims } })
kept_stepped ids p e d s us c next kept t =
    let m = p.sessions.machine in
    let ts = p.tracks.tracks in
    let claims = p.tracks.claims in
    let h = p.chronicle.entries in
    let w = world_of m ts in
    let new = revoke_all s.lost claims in
    let less : new ≡ filter (holds_still s.machine) claims = claims_left ids h p.chronicle.effects m s.machine d ts claims new s.lost kept.2 t.stepped.machine (subst (λ (k : Machine). AreLost (held_key k) (held_key d.machine) s.lost) t.same t.stepped.lost) refl in
    let moved : world_of s.machine us ≡ (step w e).world = ap (λ (k : Machine). world_of k us) t.stepped.machine ∙ ap (λ (x : Stepped). x.world) (sym t.does) in
    let did = t.stepped.effects ∙ ap (λ (x : Stepped). x.effects) (sym t.does) in (
      record {
        entries = omega (arith, awake_within us, t.reserved, t.taken, t.room.left, t.room.length_);
        events = t.events;
      },
      kept_more h next.entries e ts us p.undelivered.items t.entries t.quiet.plain t.quiet.feeds (omega (arith, t.room.fed)) kept.1,
      legal_stepped ids h next.entries e p.chronicle.effects next.effects s.effects w (world_of s.machine us) claims new kept.2 t.allowed (record { plain = t.quiet.plain; ends = t.quiet.ends; spends = λ c there x. t.quiet.spends c.place x }) t.entries moved did t.effects less,
      kept.3,
      out_plain ids h next.entries e p.chronicle.effects w ts us claims new kept.2 kept.4 t.entries (t.quiet.shows ids h) t.out (fewer_filter (holds_still s.machine) claims new less),
    )

pub same_room : (ts : List FedTrack) → SameRoom ts ts
same_room ts = record { left = refl; fed = refl; length_ = refl }

-- `Resume` changes no key
resume_keys : (tasks : List Queued) (m : Machine) → resumes tasks ≡ true → ((take_task tasks m).machine.sessions ≡ m.sessions) × ((take_task tasks m).machine.moment ≡ m.moment)
resume_keys [] m e = absurd cc
resume_keys (Reject p error ∷ tasks) m e = absurd cc
resume_keys (RequestDone n kids p ∷ tasks) m e = absurd cc
resume_keys (UpdateDone n changed p ∷ tasks) m e = absurd cc
resume_keys (CloseDone n p ∷ tasks) m e = absurd cc
resume_keys (RemoveDone n p ∷ tasks) m e = absurd cc
resume_keys (Evicted n ∷ tasks) m e = absurd cc
resume_keys (Report n ∷ tasks) m e = absurd cc
resume_keys (Fire event ∷ tasks) m e = absurd cc
resume_keys (Resume ∷ tasks) m e = (refl, refl)

same_picks : (m n : Machine) → n.sessions ≡ m.sessions → n.moment ≡ m.moment → pick n ≡ pick m
same_picks m n sessions moment = rw (sessions, moment) refl

task_tracks : (b : Bool) (m n : Machine) (ts us : List FedTrack) → (b ≡ true → pick n ≡ pick m) → us ≡ (if b then map (resumed_one (pick n)) ts else ts) → map track_of us ≡ (if b then resumed (pick m) (map track_of ts) else map track_of ts)
task_tracks true m n ts us same is = ap (map track_of) is ∙ (resumed_states (pick n) ts ∙ ap (λ p. resumed p (map track_of ts)) (same refl))
task_tracks false m n ts us same is = ap (map track_of) is

-- what the front task does, with the tracks looked at again under the keys after it
pub task_does : (m n : Machine) (ts us : List FedTrack) → n ≡ (after_task m).machine → us ≡ (if resumes m.tasks then map (resumed_one (pick n)) ts else ts) → step (world_of m ts) Task ≡ record { world = world_of (after_task m).machine us; effects = (after_task m).effects }
task_does m n ts us after looked =
    let t = task_tracks (resumes m.tasks) m n ts us (λ e. (let k = resume_keys m.tasks m e in same_picks m n (ap (λ (x : Machine). x.sessions) after ∙ k.0) (ap (λ (x : Machine). x.moment) after ∙ k.1))) looked in
    ap (λ (xs : List TrackState). let s : Stepped = record { world = record { machine = (after_task m).machine; tracks = xs }; effects = (after_task m).effects } in s) (sym t)

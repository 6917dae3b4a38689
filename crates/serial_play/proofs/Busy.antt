-- In the midst of a line each entry that is no line's keeps what the line leads to.
use Rattle.std.proofs.Common.{◌≡◌, ◌≢◌, ℕ, ◌+◌, inl, inr, Bool, true, false, List, [], ◌∷◌, ◌++◌, length, Option, Some, None, is_some, refl, ap, sym, subst, ◌∙◌, arith, eqb, append-nil, length-append, true≢false}
use Rattle.std.specs.Prelude.{slice_get, if◌then◌else◌}
use Rattle.std.specs.List.{filter, flat_map}
use Rattle.std.proofs.lemmas.Bool.Decides.{eqb_tells}
use Rattle.eme_types.specs.declared.sample.EncSample.{EncSample}
use Rattle.eme_types.specs.declared.call.Effect.{Effect}
use Rattle.eme_types.specs.declared.entry.Entry.{Entry}
use Rattle.eme_types.specs.declared.entry.Entry.TheVariants.{Call, Job, Task, Tick, Feed, Evict, Claim, Deliver, GiveUp, Publish, PassClear, WaitForKey, Settle}
use Rattle.eme_types.specs.declared.entry.Verdict.{Verdict}
use Rattle.task_queue.specs.declared.work.Job.{Job as Queued}
use Rattle.task_queue.specs.declared.work.Task.{Task as QueuedTask}
use Rattle.key_sessions.specs.Machine.{Machine}
use Rattle.key_sessions.specs.Agree.{Agree}
use Rattle.key_sessions.specs.Keys.{held_key, pick}
use Rattle.key_sessions.specs.Steps.{Done}
use Rattle.key_sessions.specs.Jobs.{take_job, after_job}
use Rattle.key_sessions.specs.Tasks.{after_task}
use Rattle.cdm_world.specs.In.{In}
use Rattle.cdm_world.specs.Tracks.{TrackState, head, find_track, Unpicked, HeadAtRest}
use Rattle.cdm_state.specs.After.{after_entry}
use Rattle.cdm_state.specs.History.{world, IsLegal, Allowed, MayPublish, MayPassClear, MayWait}
use Rattle.cdm_state.specs.Output.{fed_at, fed_sample, claim_key, opened, data_of, output_of, out}
use Rattle.cdm_state.specs.OfSamples.{IsOfItsSample, samples_on}
use Rattle.cdm_state.proofs.Histories.{world_more}
use Rattle.cdm_state.proofs.OfSamples.{live_of_sample, published_out, fed_in_order}
use Rattle.cdm_state.proofs.OutOn.{out_more}
use Rattle.cdm_state.proofs.Usable.{held_picked}
use Rattle.output_order.specs.Lane.{asked}
use Rattle.output_order.specs.Complete.{IsFront}
use Rattle.sample_crypt.specs.Decryption.{decryption}
use Rattle.serial_play.specs.Served.{is_heard, is_kept, quiet, and_then, front_step, next_step, served}
use Rattle.serial_play.specs.Serial.{Serial, so_far, samples_in, passed}
use Rattle.serial_play.specs.Law.{heard_in}
use Rattle.serial_play.proofs.QuietSteps.{quiet_job, quiet_wait}
use Rattle.serial_play.proofs.QuietTasks.{quiet_task, unheard_task}
use Rattle.serial_play.proofs.JobSteps.{job_leaves}
use Rattle.serial_play.proofs.Keyless.{keyless_quiet}
use Rattle.serial_play.proofs.ServedAll.{served_step}
use Rattle.serial_play.proofs.ServedKeys.{keyless_job, keyless_wait, task_keeps, served_held}
use Rattle.serial_play.proofs.Stops.{and_gives, moved_more, front_length, front_more}
use Rattle.serial_play.proofs.PublishKey.{held_passes, clear_passes, published_bytes}
use Rattle.serial_play.proofs.Rest.{done_as, seen_of, Before, Final, Phase, Busy, seen_after, seen_more, fed_behind}

-- ---- the front job and the front task lead to what was queued

next_by : (m : Machine) (effects : List Effect) (js : List Queued) → m.jobs ≡ js → and_then (done_as (quiet m) effects) next_step ≡ done_as (front_step js (quiet m)).machine (effects ++ (front_step js (quiet m)).effects)
next_by m effects js is = ap (λ (ks : List Queued). done_as (front_step ks (quiet m)).machine (effects ++ (front_step ks (quiet m)).effects)) is

job_leads : (m : Machine) (effects : List Effect) (job : Queued) → m.jobs ≡ job ∷ [] → served (done_as (quiet (after_job m).machine) (effects ++ [])) ≡ served (done_as (quiet m) effects)
job_leads m effects job is =
    ap (λ (k : Machine). served (done_as k (effects ++ []))) (quiet_job m).machine ∙ (ap served (sym (next_by m effects (job ∷ []) is)) ∙ sym (served_step (done_as (quiet m) effects)))

-- what is seen after the front task
abbrev after_front : Machine → List Effect → Done
after_front m effects = done_as (quiet (after_task m).machine) (effects ++ filter is_heard (after_task m).effects)

kept_leads : (m : Machine) (effects : List Effect) (task : QueuedTask) (ts : List QueuedTask) → is_kept task ≡ true → m.jobs ≡ [] → m.tasks ≡ task ∷ ts → served (after_front m effects) ≡ served (done_as (quiet m) effects)
kept_leads m effects task ts kept none is =
    let q = quiet_task m task ts is kept in
    let same : after_front m effects ≡ done_as (after_task (quiet m)).machine (effects ++ (after_task (quiet m)).effects) =
    ap (λ (k : Machine). done_as k (effects ++ filter is_heard (after_task m).effects)) q.machine ∙ ap (λ (xs : List Effect). done_as (after_task (quiet m)).machine (effects ++ xs)) q.effects in
    ap served same ∙ (ap served (sym (next_by m effects [] none)) ∙ sym (served_step (done_as (quiet m) effects)))

gone_leads : (m : Machine) (effects : List Effect) (task : QueuedTask) (ts : List QueuedTask) → is_kept task ≡ false → m.tasks ≡ task ∷ ts → served (after_front m effects) ≡ served (done_as (quiet m) effects)
gone_leads m effects task ts gone is =
    let q = unheard_task m task ts is gone in
    let same : after_front m effects ≡ done_as (quiet m) (effects ++ []) =
    ap (λ (k : Machine). done_as k (effects ++ filter is_heard (after_task m).effects)) q.machine ∙ ap (λ (xs : List Effect). done_as (quiet m) (effects ++ xs)) q.effects in
    ap served (same ∙ ap (done_as (quiet m)) (append-nil effects))

front_leads : (m : Machine) (effects : List Effect) (ts : List QueuedTask) → m.tasks ≡ ts → m.tasks ≢ [] → m.jobs ≡ [] → served (after_front m effects) ≡ served (done_as (quiet m) effects)
front_leads m effects [] is some none = absurd (some is)
front_leads m effects (task ∷ ts) is some none = go (is_kept task) refl where
  go : (b : Bool) → is_kept task ≡ b → served (after_front m effects) ≡ served (done_as (quiet m) effects)
  go true kept = kept_leads m effects task ts kept none is
  go false gone = gone_leads m effects task ts gone is

-- the entry keeps the line: it feeds nothing, what is queued leads to the same, and what is out stays a front
record Keeps (ids : List ℕ) (g : List Entry) (t : Serial) (e : Entry) : Type 0 where
  seen : served (seen_after ids g e) ≡ so_far t
  fed : (id : ℕ) → samples_on id e ≡ []
  front : (id : ℕ) → In ids id → IsFront (out ids g id ++ output_of ids g id e) (t.out id)
  phase : Phase (after_entry (world ids g) e)

module _ (ids : List ℕ) (g : List Entry) (s t : Serial) (b : Busy ids g s t) where
  -- after one more entry
  busy_more : (e : Entry) → Keeps ids g t e → Busy ids (g ++ e ∷ []) s t
  busy_more e keeps = record {
    seen = ap served (seen_more ids g e) ∙ keeps.seen;
    fed = λ id. fed_behind id g e ∙ (ap (λ (xs : List EncSample). flat_map (samples_on id) g ++ xs) (keeps.fed id) ∙ (append-nil (flat_map (samples_on id) g) ∙ b.fed id));
    moved = b.moved;
    front = λ id there. subst (λ (os : List (List ℕ)). IsFront os (t.out id)) (sym (out_more ids g e id)) (keeps.front id there);
    past = λ id there.
        let more : List (List ℕ) = output_of ids g id e in
        let long : length (out ids (g ++ e ∷ []) id) ≡ length (out ids g id) + length more = ap (λ (os : List (List ℕ)). length os) (out_more ids g e id) ∙ length-append (out ids g id) more in
        omega (arith, long, b.past id there);
    phase = subst Phase (sym (world_more ids g e)) keeps.phase;
  }

  -- where nothing goes out
  same_front : (e : Entry) → ((id : ℕ) → output_of ids g id e ≡ []) → (id : ℕ) → In ids id → IsFront (out ids g id ++ output_of ids g id e) (t.out id)
  same_front e none id there = subst (λ (os : List (List ℕ)). IsFront os (t.out id)) (sym (ap (λ (os : List (List ℕ)). out ids g id ++ os) (none id) ∙ append-nil (out ids g id))) (b.front id there)

  -- with these bytes what is out on the track stays a front
  abbrev GoesOut : ℕ → List ℕ → Type 0
  GoesOut track bytes = In ids track → IsFront (out ids g track ++ bytes ∷ []) (t.out track)

  -- where one sample of a track goes out
  front_one : (track : ℕ) (xs : List (List ℕ)) (bytes : List ℕ) → xs ≡ bytes ∷ [] → GoesOut track bytes → (id : ℕ) → In ids id → IsFront (out ids g id ++ (if eqb track id then xs else [])) (t.out id)
  front_one track xs bytes is here id there = elim (eqb_tells track id) [
    | inl p ↦
        (let same : (if eqb track id then xs else []) ≡ bytes ∷ [] = ap (λ (c : Bool). if c then xs else []) p.0 ∙ is in
        subst (λ (os : List (List ℕ)). IsFront (out ids g id ++ os) (t.out id)) (sym same) (subst (λ (n : ℕ). IsFront (out ids g n ++ bytes ∷ []) (t.out n)) p.1 (here (subst (λ (n : ℕ). In ids n) (sym p.1) there))))
    | inr p ↦
        (let none : (if eqb track id then xs else []) ≡ [] = ap (λ (c : Bool). if c then xs else []) p.0 in
        subst (λ (os : List (List ℕ)). IsFront os (t.out id)) (sym (ap (λ (os : List (List ℕ)). out ids g id ++ os) none ∙ append-nil (out ids g id))) (b.front id there))
  ]

  -- where the sessions stay
  seen_still : served (done_as (quiet (world ids g).machine) (heard_in ids g ++ [])) ≡ so_far t
  seen_still = ap (λ (xs : List Effect). served (done_as (quiet (world ids g).machine) xs)) (append-nil (heard_in ids g)) ∙ b.seen

  -- the sessions hold the keys that they hold at the end of the line
  final_held : Final (world ids g).machine → (n : ℕ) (kid : List ℕ) → held_key (world ids g).machine n kid ≡ held_key t.machine n kid
  final_held f n kid =
      sym (served_held (seen_of ids g) n kid f.jobs (keyless_quiet (world ids g).machine f.keyless)) ∙ ap (λ (d : Done). held_key d.machine n kid) b.seen

  -- the head of a track, read off what the serial play fed and what is out
  pub head_is : IsLegal ids g → (id : ℕ) (u : TrackState) → find_track (world ids g).tracks id ≡ Some u → slice_get (samples_in id t.fed) (length (out ids g id)) ≡ head u
  head_is legal id u known =
      let fed : u.fed ≡ samples_in id t.fed = fed_in_order ids g id u known ∙ b.fed id in
      ap (λ (n : ℕ). slice_get (samples_in id t.fed) n) (sym (published_out ids g id u legal known)) ∙ ap (λ (xs : List EncSample). slice_get xs u.published) (sym fed)

  -- a head that passes goes out
  goes_out : IsLegal ids g → (id : ℕ) (u : TrackState) (x : EncSample) (bytes : List ℕ) → find_track (world ids g).tracks id ≡ Some u → head u ≡ Some x → passed (pick t.machine) x ≡ Some bytes → GoesOut id bytes
  goes_out legal id u x bytes known at passes there =
      let fed : List EncSample = samples_in id t.fed in
      let whole : List (List ℕ) = and_gives (pick t.machine) (s.out id) fed in
      let front : IsFront (out ids g id) whole = subst (λ (os : List (List ℕ)). IsFront (out ids g id) os) (b.moved id) (b.front id there) in
      let here : slice_get whole (length (out ids g id)) ≡ Some bytes =
      moved_more (pick t.machine) (s.out id) fed (length (out ids g id)) x bytes (b.past id there) (front_length (out ids g id) whole front) (head_is legal id u known ∙ at) passes in
      subst (λ (os : List (List ℕ)). IsFront (out ids g id ++ bytes ∷ []) os) (sym (b.moved id)) (front_more (out ids g id) whole bytes front here)

  -- the sample of a publication is the head of its track
  published_head : (track index place : ℕ) (may : MayPublish ids g track index place) (o : IsOfItsSample ids g place track index) → head may.state ≡ Some o.sample
  published_head track index place may o =
      ap (λ (n : ℕ). slice_get may.state.fed n) (sym may.next) ∙ (sym (ap (λ (u : Option TrackState). fed_at u index) may.known) ∙ o.fed)

  -- a head of a track that is at rest before the job
  head_waits : (before : Before (world ids g)) (track : ℕ) (u : TrackState) (x : EncSample) → find_track (world ids g).tracks track ≡ Some u → head u ≡ Some x → HeadAtRest (pick (world ids g).machine) u (Some x)
  head_waits before track u x known at = subst (HeadAtRest (pick (world ids g).machine) u) at (before.tracks track u known)

  job_keeps : (world ids g).machine.jobs ≢ [] → Phase (world ids g) → Keeps ids g t Job
  job_keeps some (inl before) =
      let m : Machine = (world ids g).machine in
      record {
        seen = job_leads m (heard_in ids g) before.job before.jobs ∙ b.seen;
        fed = λ id. refl;
        front = same_front Job (λ id. refl);
        phase = inr (record {
          jobs = ap (λ (js : List Queued). (take_job js m).jobs) before.jobs ∙ (job_leaves (record m { jobs = [] }) before.job).jobs;
          keyless = keyless_job m before.tasks;
        });
      }
  job_keeps some (inr final) = absurd (some final.jobs)

  task_keeps_line : (world ids g).machine.tasks ≢ [] → Phase (world ids g) → Keeps ids g t Task
  task_keeps_line some (inl before) = absurd (some before.tasks)
  task_keeps_line some (inr final) =
      let m : Machine = (world ids g).machine in
      let keeps = task_keeps m final.keyless in
      record {
        seen = front_leads m (heard_in ids g) m.tasks refl some final.jobs ∙ b.seen;
        fed = λ id. refl;
        front = same_front Task (λ id. refl);
        phase = inr (record { jobs = keeps.jobs ∙ final.jobs; keyless = keeps.closers });
      }

  -- before its job is done a line publishes nothing
  none_published : (track index place : ℕ) → MayPublish ids g track index place → IsOfItsSample ids g place track index → Before (world ids g) → ⊥
  none_published track index place may o before =
      let m : Machine = (world ids g).machine in
      let waits = head_waits before track may.state o.sample may.known (published_head track index place may o) in
      let none : pick m o.protect.kid ≡ None = subst (Unpicked (pick m)) o.protected waits.1 in
      true≢false (sym (held_picked m o.session o.protect.kid o.key o.held) ∙ ap is_some none)

  publish_keeps : IsLegal ids g → Agree t.machine → (track index place : ℕ) → MayPublish ids g track index place → IsOfItsSample ids g place track index → Phase (world ids g) → Keeps ids g t (Publish track index place)
  publish_keeps legal agree track index place may o (inl before) = absurd (none_published track index place may o before)
  publish_keeps legal agree track index place may o (inr final) =
      let bytes : List ℕ = decryption o.sample o.key in
      let held : held_key t.machine o.session o.protect.kid ≡ Some o.key = sym (final_held final o.session o.protect.kid) ∙ o.held in
      let passes : passed (pick t.machine) o.sample ≡ Some bytes = held_passes t.machine o.session o.protect o.sample o.key agree held o.protected in
      let here : GoesOut track bytes = goes_out legal track may.state o.sample bytes may.known (published_head track index place may o) passes in
      record {
        seen = seen_still;
        fed = λ id. refl;
        front = front_one track (opened (fed_sample (world ids g) track index) (claim_key ids g place)) bytes (published_bytes ids g place track index o) here;
        phase = inr final;
      }

  pass_keeps : IsLegal ids g → (track index : ℕ) → MayPassClear ids g track index → Phase (world ids g) → Keeps ids g t (PassClear track index)
  pass_keeps legal track index may (inl before) = absurd (subst (Unpicked (pick (world ids g).machine)) may.clear (head_waits before track may.state may.sample may.known may.fed).1)
  pass_keeps legal track index may (inr final) =
      let bytes : List ℕ = may.sample.bytes in
      let here : GoesOut track bytes = goes_out legal track may.state may.sample bytes may.known may.fed (clear_passes t.machine may.sample may.clear) in
      let fed : fed_sample (world ids g) track index ≡ Some may.sample = ap (λ (u : Option TrackState). fed_at u index) may.known ∙ (ap (λ (n : ℕ). slice_get may.state.fed n) may.next ∙ may.fed) in
      record {
        seen = seen_still;
        fed = λ id. refl;
        front = front_one track (data_of (fed_sample (world ids g) track index)) bytes (ap data_of fed) here;
        phase = inr final;
      }

  wait_keeps : (track : ℕ) → MayWait ids g track → Phase (world ids g) → Keeps ids g t (WaitForKey track)
  wait_keeps track may (inl before) = absurd (true≢false (sym (head_waits before track may.state may.sample may.known may.fed).0 ∙ may.awake))
  wait_keeps track may (inr final) =
      let m : Machine = (world ids g).machine in
      record {
        seen = ap (λ (k : Machine). served (done_as k (heard_in ids g ++ []))) (quiet_wait m track) ∙ seen_still;
        fed = λ id. refl;
        front = same_front (WaitForKey track) (λ id. refl);
        phase = inr (record { jobs = final.jobs; keyless = keyless_wait m track final.keyless });
      }

  claim_keeps : (worker track index session : ℕ) (kid : List ℕ) → Keeps ids g t (Claim worker track index session kid)
  claim_keeps worker track index session kid = record { seen = seen_still; fed = λ id. refl; front = same_front (Claim worker track index session kid) (λ id. refl); phase = b.phase }

  delivery_keeps : (place : ℕ) (verdict : Verdict) → Keeps ids g t (Deliver place verdict)
  delivery_keeps place verdict = record { seen = seen_still; fed = λ id. refl; front = same_front (Deliver place verdict) (λ id. refl); phase = b.phase }

  give_up_keeps : (place : ℕ) → Keeps ids g t (GiveUp place)
  give_up_keeps place = record { seen = seen_still; fed = λ id. refl; front = same_front (GiveUp place) (λ id. refl); phase = b.phase }

  entry_keeps : IsLegal ids g → Agree t.machine → (e : Entry) → Allowed ids g e → asked e ≡ [] → Keeps ids g t e
  entry_keeps legal agree (Call lane line call) may none = absurd cc
  entry_keeps legal agree Job may none = job_keeps may b.phase
  entry_keeps legal agree Task may none = task_keeps_line may b.phase
  entry_keeps legal agree (Tick line moment) may none = absurd cc
  entry_keeps legal agree (Feed line fragment) may none = absurd cc
  entry_keeps legal agree (Evict line label) may none = absurd cc
  entry_keeps legal agree (Claim worker track index session kid) may none = claim_keeps worker track index session kid
  entry_keeps legal agree (Deliver place verdict) may none = delivery_keeps place verdict
  entry_keeps legal agree (GiveUp place) may none = give_up_keeps place
  entry_keeps legal agree (Publish track index place) may none = publish_keeps legal agree track index place may (live_of_sample ids g place track index legal may.live) b.phase
  entry_keeps legal agree (PassClear track index) may none = pass_keeps legal track index may b.phase
  entry_keeps legal agree (WaitForKey track) may none = wait_keeps track may b.phase
  entry_keeps legal agree (Settle line) may none = absurd cc

  -- each entry that is no line's
  pub busy_keeps : IsLegal ids g → Agree t.machine → (e : Entry) → Allowed ids g e → asked e ≡ [] → Busy ids (g ++ e ∷ []) s t
  busy_keeps legal agree e may none = busy_more e (entry_keeps legal agree e may none)

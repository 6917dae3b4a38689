-- A line begins at rest, and where the history is at rest again it has led to where the serial play stands after it.
use Rattle.std.proofs.Common.{zero, suc, ◌≡◌, ℕ, ◌≤◌, inl, inr, Bool, true, false, List, [], ◌∷◌, ◌++◌, length, drop, Option, Some, None, refl, ap, sym, subst, ◌∙◌, arith, eqb, append-nil}
use Rattle.std.specs.Prelude.{slice_get, if◌then◌else◌, All}
use Rattle.std.specs.List.{filter, flat_map}
use Rattle.std.proofs.lemmas.List.Concat.{flat_map-append}
use Rattle.eme_types.specs.declared.sample.EncSample.{EncSample}
use Rattle.eme_types.specs.declared.sample.Protect.{Protect}
use Rattle.eme_types.specs.declared.media.Fragment.{Fragment}
use Rattle.eme_types.specs.declared.call.AppCall.{AppCall}
use Rattle.eme_types.specs.declared.call.Effect.{Effect}
use Rattle.eme_types.specs.declared.entry.Entry.{Entry}
use Rattle.eme_types.specs.declared.entry.Entry.TheVariants.{Call, Job, Task, Tick, Feed, Evict, Claim, Deliver, GiveUp, Publish, PassClear, WaitForKey, Settle}
use Rattle.script_lang.specs.declared.script.Action.{Action}
use Rattle.script_lang.specs.declared.script.Action.TheVariants.{Ask, Feed as FeedAction, Clock, Evict as EvictAction}
use Rattle.key_sessions.specs.Machine.{SessionState, Machine}
use Rattle.key_sessions.specs.Agree.{Agree}
use Rattle.key_sessions.specs.Keys.{held_key, pick}
use Rattle.key_sessions.specs.Steps.{Done}
use Rattle.key_sessions.specs.Calls.{find_label, is_ending, after_call}
use Rattle.key_sessions.specs.Evict.{evict_numbered, evict_on, after_evict}
use Rattle.key_sessions.specs.World.{World}
use Rattle.cdm_world.specs.In.{In}
use Rattle.cdm_world.specs.Tracks.{Picks, TrackState, TrackAtRest, HeadAtRest, Unpicked, head, find_track}
use Rattle.cdm_state.proofs.Quiet.{all_found}
use Rattle.cdm_state.specs.After.{after_entry, effects_of, feed_step}
use Rattle.cdm_state.specs.Feeds.{parts_in}
use Rattle.cdm_state.specs.History.{world, IsLegal, Allowed, AtRest}
use Rattle.cdm_state.specs.Output.{output_of, out}
use Rattle.cdm_state.specs.OfSamples.{part_on, samples_on}
use Rattle.cdm_state.proofs.Histories.{world_more}
use Rattle.cdm_state.proofs.OutOn.{out_more}
use Rattle.cdm_state.proofs.Quiet.{rest_is_quiet}
use Rattle.cdm_state.proofs.Plain.{some_alone}
use Rattle.output_order.specs.Lane.{asked}
use Rattle.output_order.specs.Complete.{IsFront}
use Rattle.serial_play.specs.Served.{IsIdle, is_heard, is_kept, quiet, and_then, served}
use Rattle.serial_play.specs.Serial.{Serial, so_far, gives, samples_of, samples_in, moved, told_of, begun, fed_with, line_done, fed_more, line_step}
use Rattle.serial_play.specs.Law.{heard_in}
use Rattle.serial_play.proofs.QuietCalls.{Quieted, quiet_call}
use Rattle.serial_play.proofs.QuietSteps.{quiet_tick, quiet_evict, quiet_told_of}
use Rattle.serial_play.proofs.JobSteps.{keyless_evict}
use Rattle.serial_play.proofs.Keyless.{keyless_none}
use Rattle.serial_play.proofs.ServedAll.{served_idle}
use Rattle.serial_play.proofs.ServedKeys.{keyless_tick, keyless_told_of, served_held, call_shape, call_picks}
use Rattle.serial_play.proofs.Stops.{and_gives, moved_stops, moved_within, front_here, front_all}
use Rattle.serial_play.proofs.PublishKey.{unpicked_stops}
use Rattle.serial_play.proofs.Rest.{done_as, seen_of, Rest, Final, Phase, Busy, seen_after, seen_more, fed_behind, found_known}
use Rattle.serial_play.proofs.Busy.{head_is}

-- an eviction queues no job
evict_jobs : (m : Machine) (label : List ℕ) → (after_evict label m).machine.jobs ≡ m.jobs
evict_jobs m label = on (find_label m label) where
  either : (n : ℕ) (b : Bool) → (if b then m else evict_numbered n m).jobs ≡ m.jobs
  either n true = refl
  either n false = refl

  on : (o : Option (ℕ × SessionState)) → (evict_on m o).jobs ≡ m.jobs
  on None = refl
  on (Some (n, x)) = either n (is_ending x)

-- what a feed has to tell takes no job and no key away
told_keeps : (m : Machine) (given : Option Fragment) → ((told_of given m).jobs ≡ m.jobs) × ((n : ℕ) (kid : List ℕ) → held_key (told_of given m) n kid ≡ held_key m n kid)
told_keeps m None = (refl, λ n kid. refl)
told_keeps m (Some f) = (refl, λ n kid. refl)

-- ---- the end of a line

module _ (ids : List ℕ) (g : List Entry) (s t : Serial) (b : Busy ids g s t) (legal : IsLegal ids g) (rest : AtRest (world ids g)) where
  -- nothing is queued any more
  seen_now : seen_of ids g ≡ so_far t
  seen_now = sym (served_idle (seen_of ids g) (record { jobs = rest.jobs; tasks = ap (filter is_kept) rest.tasks })) ∙ b.seen

  -- the picks are those at the end of the line
  picks_now : (kid : List ℕ) → pick (world ids g).machine kid ≡ pick t.machine kid
  picks_now kid = ap (λ (d : Done). pick d.machine kid) seen_now

  -- what is out of a track at the end of the line
  abbrev whole : ℕ → List (List ℕ)
  whole id = and_gives (pick t.machine) (s.out id) (samples_in id t.fed)

  -- the sample behind those that are out
  abbrev NextIs : ℕ → Option EncSample → Type 0
  NextIs id o = slice_get (samples_in id t.fed) (length (out ids g id)) ≡ o

  -- what is out is no shorter, where the next sample has no pick
  stops_at : (id : ℕ) → In ids id → (x : EncSample) (o : Option Protect) → NextIs id (Some x) → x.protect ≡ o → Unpicked (pick (world ids g).machine) o → length (whole id) ≤ length (out ids g id)
  stops_at id there x None at protected unpicked = absurd unpicked
  stops_at id there x (Some p) at protected unpicked =
      moved_stops (pick t.machine) (s.out id) (samples_in id t.fed) (length (out ids g id)) x (b.past id there) at (unpicked_stops t.machine p x (sym (picks_now p.kid) ∙ unpicked) protected)

  -- or where there is none
  ends_at : (id : ℕ) → In ids id → (u : TrackState) (o : Option EncSample) → NextIs id o → HeadAtRest (pick (world ids g).machine) u o → length (whole id) ≤ length (out ids g id)
  ends_at id there u None at waits = moved_within (pick t.machine) (s.out id) (samples_in id t.fed) (length (out ids g id)) (b.past id there) at
  ends_at id there u (Some x) at waits = stops_at id there x x.protect at refl waits.1

  outputs_now : (id : ℕ) → In ids id → out ids g id ≡ t.out id
  outputs_now id there =
      let known = found_known ids g id there in
      let u : TrackState = known.0 in
      let waits : TrackAtRest (pick (world ids g).machine) u = all_found (TrackAtRest (pick (world ids g).machine)) (world ids g).tracks id u rest.tracks known.1 in
      let le : length (whole id) ≤ length (out ids g id) = ends_at id there u (head u) (head_is ids g s t b legal id u known.1) waits in
      front_all (out ids g id) (t.out id) (b.front id there) (subst (λ (os : List (List ℕ)). length os ≤ length (out ids g id)) (sym (b.moved id)) le)

  pub line_ends : Rest ids g t
  line_ends = record { rest = rest; seen = seen_now; fed = b.fed; outputs = outputs_now }

-- the entry begins a line of this action: it does to the sessions and feeds what the line does, and puts nothing out
record Begins (ids : List ℕ) (g : List Entry) (e : Entry) (action : Action) (given : Option Fragment) : Type 0 where
  does : Quieted (done_as (after_entry (world ids g) e).machine (effects_of (world ids g) e)) (begun action given (quiet (world ids g).machine))
  fed : (id : ℕ) → samples_on id e ≡ samples_in id (fed_with action given)
  silent : (id : ℕ) → output_of ids g id e ≡ []
  phase : Phase (after_entry (world ids g) e)

-- ---- at rest

module _ (ids : List ℕ) (g : List Entry) (s : Serial) (r : Rest ids g s) where
  -- nothing goes out
  out_still : (e : Entry) → ((id : ℕ) → output_of ids g id e ≡ []) → (id : ℕ) → In ids id → out ids (g ++ e ∷ []) id ≡ s.out id
  out_still e silent id there = out_more ids g e id ∙ (ap (λ (os : List (List ℕ)). out ids g id ++ os) (silent id) ∙ (append-nil (out ids g id) ∙ r.outputs id there))

  -- an entry that changes nothing
  rest_still : (e : Entry) → after_entry (world ids g) e ≡ world ids g → effects_of (world ids g) e ≡ [] → ((id : ℕ) → samples_on id e ≡ []) → ((id : ℕ) → output_of ids g id e ≡ []) → Rest ids (g ++ e ∷ []) s
  rest_still e same unheard none silent =
      let effects : heard_in ids g ++ filter is_heard (effects_of (world ids g) e) ≡ heard_in ids g = ap (λ (xs : List Effect). heard_in ids g ++ filter is_heard xs) unheard ∙ append-nil (heard_in ids g) in
      let after : seen_after ids g e ≡ seen_of ids g = ap (done_as (quiet (after_entry (world ids g) e).machine)) effects ∙ ap (λ (w : World). done_as (quiet w.machine) (heard_in ids g)) same in
      record {
        rest = subst AtRest (sym (world_more ids g e ∙ same)) r.rest;
        seen = seen_more ids g e ∙ (after ∙ r.seen);
        fed = λ id. fed_behind id g e ∙ (ap (λ (xs : List EncSample). flat_map (samples_on id) g ++ xs) (none id) ∙ (append-nil (flat_map (samples_on id) g) ∙ r.fed id));
        outputs = out_still e silent;
      }

  -- a settle
  pub settle_keeps : (line : ℕ) → Rest ids (g ++ Settle line ∷ []) s
  settle_keeps line = rest_still (Settle line) refl refl (λ id. refl) (λ id. refl)

  -- each entry that is no line's: only deliveries and claims given up can come
  pub rest_keeps : IsLegal ids g → (e : Entry) → Allowed ids g e → asked e ≡ [] → Rest ids (g ++ e ∷ []) s
  rest_keeps legal (Call lane line call) may none = absurd cc
  rest_keeps legal Job may none = absurd (may r.rest.jobs)
  rest_keeps legal Task may none = absurd (may r.rest.tasks)
  rest_keeps legal (Tick line moment) may none = absurd cc
  rest_keeps legal (Feed line fragment) may none = absurd cc
  rest_keeps legal (Evict line label) may none = absurd cc
  rest_keeps legal (Claim worker track index session kid) may none = absurd ((rest_is_quiet ids g legal r.rest).claim track index session kid may)
  rest_keeps legal (Deliver place verdict) may none = rest_still (Deliver place verdict) refl refl (λ id. refl) (λ id. refl)
  rest_keeps legal (GiveUp place) may none = rest_still (GiveUp place) refl refl (λ id. refl) (λ id. refl)
  rest_keeps legal (Publish track index place) may none = absurd ((rest_is_quiet ids g legal r.rest).publish track index place may)
  rest_keeps legal (PassClear track index) may none = absurd ((rest_is_quiet ids g legal r.rest).pass track index may)
  rest_keeps legal (WaitForKey track) may none = absurd ((rest_is_quiet ids g legal r.rest).wait track may)
  rest_keeps legal (Settle line) may none = absurd cc

  -- ---- the beginning of a line

  idle_now : IsIdle (world ids g).machine
  idle_now = record { jobs = r.rest.jobs; tasks = r.rest.tasks }

  -- a line begins with the entry e
  begins : (e : Entry) (action : Action) (given : Option Fragment) → Begins ids g e action given → Busy ids (g ++ e ∷ []) s (moved (fed_more (line_done action given s) (fed_with action given) s))
  begins e action given new =
      let t : Serial = moved (fed_more (line_done action given s) (fed_with action given) s) in
      let d : Done = begun action given (quiet (world ids g).machine) in
      let fx : List Effect = filter is_heard (effects_of (world ids g) e) in
      let machine : seen_after ids g e ≡ done_as d.machine (heard_in ids g ++ fx) = ap (λ (k : Machine). done_as k (heard_in ids g ++ fx)) new.does.machine in
      let begun_ : seen_after ids g e ≡ and_then (seen_of ids g) (begun action given) = machine ∙ ap (λ (xs : List Effect). done_as d.machine (heard_in ids g ++ xs)) new.does.effects in
      let fed : (id : ℕ) → flat_map (samples_on id) g ++ samples_on id e ≡ samples_in id s.fed ++ samples_in id (fed_with action given) =
      λ id. ap (λ (xs : List EncSample). xs ++ samples_on id e) (r.fed id) ∙ ap (λ (xs : List EncSample). samples_in id s.fed ++ xs) (new.fed id) in
      record {
        seen = ap served (seen_more ids g e ∙ (begun_ ∙ ap (λ (d : Done). and_then d (begun action given)) r.seen));
        fed = λ id. fed_behind id g e ∙ (fed id ∙ sym (flat_map-append (samples_of id) s.fed (fed_with action given)));
        moved = λ id. refl;
        front = λ id there. subst (λ (os : List (List ℕ)). IsFront os (t.out id)) (sym (out_still e new.silent id there)) (front_here (s.out id) (gives (pick t.machine) (drop (length (s.out id)) (samples_in id t.fed))));
        past = λ id there. (let long : length (out ids (g ++ e ∷ []) id) ≡ length (s.out id) = ap (λ (os : List (List ℕ)). length os) (out_still e new.silent id there) in omega (arith, long));
        phase = subst Phase (sym (world_more ids g e)) new.phase;
      }

  -- the tracks rest under the same picks
  rests_alike : (p : Picks) → ((kid : List ℕ) → p kid ≡ pick (world ids g).machine kid) → (u : TrackState) (o : Option EncSample) → HeadAtRest (pick (world ids g).machine) u o → HeadAtRest p u o
  rests_alike p same u None waits = tt
  rests_alike p same u (Some x) waits = (waits.0, go x.protect waits.1) where
    go : (o : Option Protect) → Unpicked (pick (world ids g).machine) o → Unpicked p o
    go None none = none
    go (Some q) none = same q.kid ∙ none

  call_phase : (lane line : ℕ) (call : AppCall) → Phase (after_entry (world ids g) (Call lane line call))
  call_phase lane line call =
      let m : Machine = (world ids g).machine in
      let shape = call_shape m call idle_now in
      elim shape.jobs [
        | inl none ↦ inr (record { jobs = none; keyless = keyless_none (after_call call m).machine shape.tasks })
        | inr one ↦ inl (record {
          job = one.0;
          jobs = one.1;
          tasks = shape.tasks;
          tracks = λ id u known. rests_alike (pick (after_call call m).machine) (call_picks m call) u (head u) (all_found (TrackAtRest (pick m)) (world ids g).tracks id u r.rest.tracks known);
        })
      ]

  pub call_begins : (lane line : ℕ) (call : AppCall) → Busy ids (g ++ Call lane line call ∷ []) s (line_step (Ask call) None s)
  call_begins lane line call = begins (Call lane line call) (Ask call) None (record {
    does = quiet_call (world ids g).machine call;
    fed = λ id. refl;
    silent = λ id. refl;
    phase = call_phase lane line call;
  })

  pub tick_begins : (line moment : ℕ) → Busy ids (g ++ Tick line moment ∷ []) s (line_step (Clock moment) None s)
  tick_begins line moment =
      let m : Machine = (world ids g).machine in
      begins (Tick line moment) (Clock moment) None (record {
        does = quiet_tick m moment;
        fed = λ id. refl;
        silent = λ id. refl;
        phase = inr (record { jobs = r.rest.jobs; keyless = keyless_tick m moment (keyless_none m r.rest.tasks) });
      })

  pub evict_begins : (line : ℕ) (label : List ℕ) → Busy ids (g ++ Evict line label ∷ []) s (line_step (EvictAction label) None s)
  evict_begins line label =
      let m : Machine = (world ids g).machine in
      begins (Evict line label) (EvictAction label) None (record {
        does = quiet_evict m label;
        fed = λ id. refl;
        silent = λ id. refl;
        phase = inr (record { jobs = evict_jobs m label ∙ r.rest.jobs; keyless = keyless_evict m label r.rest.tasks });
      })

  feed_phase : (given : Option Fragment) → Final (feed_step (world ids g) given).machine
  feed_phase None = record { jobs = r.rest.jobs; keyless = keyless_none (world ids g).machine r.rest.tasks }
  feed_phase (Some f) = record { jobs = r.rest.jobs; keyless = keyless_told_of (world ids g).machine (Some f) (keyless_none (world ids g).machine r.rest.tasks) }

  feed_quieted : (given : Option Fragment) → Quieted (done_as (feed_step (world ids g) given).machine []) (begun FeedAction given (quiet (world ids g).machine))
  feed_quieted None = record { machine = quiet_told_of (world ids g).machine None; effects = refl }
  feed_quieted (Some f) = record { machine = quiet_told_of (world ids g).machine (Some f); effects = refl }

  fed_alike : (id : ℕ) (given : Option Fragment) → flat_map (part_on id) (parts_in given) ≡ samples_in id (fed_with FeedAction given)
  fed_alike id None = refl
  fed_alike id (Some f) = sym (append-nil (samples_of id f))

  pub feed_begins : (line : ℕ) (given : Option Fragment) → Busy ids (g ++ Feed line given ∷ []) s (line_step FeedAction given s)
  feed_begins line given = begins (Feed line given) FeedAction given (record {
    does = feed_quieted given;
    fed = λ id. fed_alike id given;
    silent = λ id. refl;
    phase = inr (feed_phase given);
  })

  -- sessions that agree do so after a feed
  pub feed_agrees : (given : Option Fragment) → Agree s.machine → Agree (line_step FeedAction given s).machine
  feed_agrees given agree n k kid x y at there =
      let d : Done = and_then (so_far s) (begun FeedAction given) in
      let keeps = told_keeps s.machine given in
      let jobs : s.machine.jobs ≡ [] = ap (λ (e : Done). e.machine.jobs) (sym r.seen) ∙ r.rest.jobs in
      let tasks : s.machine.tasks ≡ [] = ap (λ (e : Done). e.machine.tasks) (sym r.seen) ∙ ap (filter is_kept) r.rest.tasks in
      let held : (i : ℕ) → held_key (served d).machine i kid ≡ held_key s.machine i kid = λ i. served_held d i kid (keeps.0 ∙ jobs) (keyless_told_of s.machine given (keyless_none s.machine tasks)) ∙ keeps.1 i kid in
      agree n k kid x y (sym (held n) ∙ at) (sym (held k) ∙ there)

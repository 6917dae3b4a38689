-- A track that waits: its head is protected and has no live claim, and for each session that holds the head's key what looks at it again is queued.
use Rattle.std.proofs.Common.{◌≡◌, ◌≢◌, ℕ, ◌-◌, ◌⊎◌, inl, inr, Bool, true, false, List, [], ◌∷◌, ◌++◌, map, Option, Some, None, is_some, refl, ap, sym, subst, ◌∙◌, true≢false, eqb}
use Rattle.std.specs.Prelude.{if◌then◌else◌}
use Rattle.std.proofs.lemmas.Bool.Decides.{eqb_tells}
use Rattle.eme_types.specs.declared.sample.EncSample.{EncSample}
use Rattle.eme_types.specs.declared.sample.Protect.{Protect}
use Rattle.eme_types.specs.declared.media.TrackPart.{TrackPart}
use Rattle.eme_types.specs.declared.media.Fragment.{Fragment}
use Rattle.eme_types.specs.declared.entry.Entry.{Entry}
use Rattle.eme_types.specs.declared.entry.Entry.TheVariants.{Call, Job, Task, Tick, Feed, Evict, Claim, Deliver, GiveUp, Publish, PassClear, WaitForKey, Settle}
use Rattle.eme_types.specs.declared.call.Event.TheVariants.{WaitingForKey}
use Rattle.task_queue.specs.declared.work.Task.{Task as Queued}
use Rattle.task_queue.specs.declared.work.Task.TheVariants.{Reject, RequestDone, UpdateDone, CloseDone, RemoveDone, Evicted, Report, Fire, Resume}
use Rattle.key_sessions.specs.Machine.{Machine}
use Rattle.key_sessions.specs.Keys.{pick}
use Rattle.key_sessions.specs.Tasks.{take_task}
use Rattle.cdm_world.specs.Tracks.{Picks, TrackState, empty_track, head, has_pick, protect_picked, find_track, change_track, feed_part, feed_parts, add_samples, one_more, set_waiting, resumed, resumed_track}
use Rattle.key_sessions.specs.World.{World, resumes}
use Rattle.cdm_state.specs.After.{after_entry, feed_step, fire_encrypted}
use Rattle.cdm_state.specs.History.{world, IsLegal, Allowed, IsOn, LiveOn, MayPublish, MayPassClear, MayWait}
use Rattle.cdm_state.proofs.Places.{either_place}
use Rattle.cdm_state.proofs.Histories.{world_more, legal_induction}
use Rattle.cdm_state.proofs.Live.{live_less, at_within}
use Rattle.cdm_state.specs.Waiting.{resume_queued, WaitsOnlyForKeys}
use Rattle.cdm_state.proofs.Usable.{is_held, held_some, Carries, carries_same, carries_call, carries_job, carries_tick, carries_evict, carries_more, carries_task}
use Rattle.cdm_state.proofs.Plain.{some_alone}
use Rattle.cdm_world.proofs.ItemsAt.{get_left}

-- a live claim of the longer history was live in the shorter one, or is the new entry
live_or_new : (ids : List ℕ) (h : List Entry) (e : Entry) (place track index : ℕ) → LiveOn ids (h ++ e ∷ []) place track index → LiveOn ids h place track index ⊎ IsOn e track index
live_or_new ids h e place track index on =
    elim (either_place h e (place - 1) on.claim on.live.at.1) [
      | inl p ↦ inl (record { claim = on.claim; key = on.key; live = live_less ids h e place on.claim on.key on.live (at_within h place on.claim (on.live.at.0, p.0)); on = on.on })
      | inr p ↦ inr (subst (λ (c : Entry). IsOn c track index) p.0 on.on)
    ]

-- what is known of a track that waits
pub record Asleep (ids : List ℕ) (h : List Entry) (id : ℕ) (t : TrackState) : Type 0 where
  pub sample : EncSample
  pub fed : head t ≡ Some sample
  pub protect : Protect
  pub protected : sample.protect ≡ Some protect
  pub free : (place : ℕ) → LiveOn ids h place id t.published → ⊥
  pub queued : (session : ℕ) → is_held (world ids h).machine.moment (world ids h).machine.sessions session protect.kid ≡ true → resume_queued session (world ids h).machine.tasks ≡ true

abbrev pub AllAsleep : List ℕ → List Entry → Type 0
AllAsleep ids h = (id : ℕ) (t : TrackState) → find_track (world ids h).tracks id ≡ Some t → t.waiting ≡ true → Asleep ids h id t

-- it stays so over an entry that leaves its head, makes no claim on it, and carries what is queued
stays_asleep : (ids : List ℕ) (h : List Entry) (e : Entry) (id : ℕ) (t u : TrackState) → Asleep ids h id t → u.published ≡ t.published → ((s : EncSample) → head t ≡ Some s → head u ≡ Some s) → (IsOn e id t.published → ⊥) → Carries (world ids h).machine.tasks (world ids h).machine (after_entry (world ids h) e).machine → Asleep ids (h ++ e ∷ []) id u
stays_asleep ids h e id t u a same up new c = record {
  sample = a.sample;
  fed = up a.sample a.fed;
  protect = a.protect;
  protected = a.protected;
  free = λ place on. elim (live_or_new ids h e place id u.published on) [
    | inl l ↦ a.free place (subst (λ (n : ℕ). LiveOn ids h place id n) same l)
    | inr x ↦ new (subst (λ (n : ℕ). IsOn e id n) same x)
  ];
  queued = λ session held.
      let p : is_held (after_entry (world ids h) e).machine.moment (after_entry (world ids h) e).machine.sessions session a.protect.kid ≡ true = subst (λ (v : World). is_held v.machine.moment v.machine.sessions session a.protect.kid ≡ true) (world_more ids h e) held in
      let r : resume_queued session (after_entry (world ids h) e).machine.tasks ≡ true = elim (c.held session a.protect.kid p) [
        | inl old ↦ c.queued session a.protect.kid p (a.queued session old)
        | inr now ↦ now
      ] in
      subst (λ (v : World). resume_queued session v.machine.tasks ≡ true) (sym (world_more ids h e)) r;
}

-- the track that is found after one is changed
pub change_found : (ts : List TrackState) (track : ℕ) (f : TrackState → TrackState) → ((s : TrackState) → (f s).id ≡ s.id) → (id : ℕ) (u : TrackState) → find_track (change_track ts track f) id ≡ Some u → (t : TrackState) × (find_track ts id ≡ Some t) × (((track ≡ id) × (u ≡ f t)) ⊎ (u ≡ t))
change_found [] track f same id u e = absurd cc
change_found (s ∷ ts) track f same id u e = elim (eqb_tells s.id track) [
  | inl p ↦ elim (eqb_tells s.id id) [
    | inl q ↦ (let k : eqb (f s).id id ≡ true = ap (λ (n : ℕ). eqb n id) (same s) ∙ q.0 in let here : Some (f s) ≡ Some u = rw (p.0, k) at e in (s, rw q.0 refl, inl (sym p.1 ∙ q.1, sym (some_alone (f s) u here))))
    | inr q ↦ (let k : eqb (f s).id id ≡ false = ap (λ (n : ℕ). eqb n id) (same s) ∙ q.0 in let there : find_track ts id ≡ Some u = rw (p.0, k) at e in (u, rw q.0 there, inr refl))
  ]
  | inr p ↦ elim (eqb_tells s.id id) [
    | inl q ↦ (let here : Some s ≡ Some u = rw (p.0, q.0) at e in (u, rw q.0 here, inr refl))
    | inr q ↦ (let r = change_found ts track f same id u (rw (p.0, q.0) at e) in (r.0, rw q.0 r.1, r.2))
  ]
]

-- and after all are
pub map_found : (f : TrackState → TrackState) → ((s : TrackState) → (f s).id ≡ s.id) → (ts : List TrackState) (id : ℕ) (u : TrackState) → find_track (map f ts) id ≡ Some u → (t : TrackState) × (find_track ts id ≡ Some t) × (u ≡ f t)
map_found f same [] id u e = absurd cc
map_found f same (s ∷ ts) id u e = elim (eqb_tells s.id id) [
  | inl q ↦ (let k : eqb (f s).id id ≡ true = ap (λ (n : ℕ). eqb n id) (same s) ∙ q.0 in let here : Some (f s) ≡ Some u = rw k at e in (s, rw q.0 refl, sym (some_alone (f s) u here)))
  | inr q ↦ (let k : eqb (f s).id id ≡ false = ap (λ (n : ℕ). eqb n id) (same s) ∙ q.0 in let r = map_found f same ts id u (rw k at e) in (r.0, rw q.0 r.1, r.2))
]

-- a track that was fed more
pub record Fed (t u : TrackState) : Type 0 where
  pub waiting : u.waiting ≡ t.waiting
  pub published : u.published ≡ t.published
  pub head_ : (s : EncSample) → head t ≡ Some s → head u ≡ Some s

fed_none : (t : TrackState) → Fed t t
fed_none t = record { waiting = refl; published = refl; head_ = λ s e. e }

fed_then : (t u v : TrackState) → Fed t u → Fed u v → Fed t v
fed_then t u v a b = record { waiting = b.waiting ∙ a.waiting; published = b.published ∙ a.published; head_ = λ s e. b.head_ s (a.head_ s e) }

fed_added : (t : TrackState) (samples : List EncSample) → Fed t (add_samples samples t)
fed_added t samples = record { waiting = refl; published = refl; head_ = λ s e. get_left t.fed samples t.published s e }

parts_found : (ts : List TrackState) (parts : List TrackPart) (id : ℕ) (u : TrackState) → find_track (feed_parts ts parts) id ≡ Some u → (t : TrackState) × (find_track ts id ≡ Some t) × Fed t u
parts_found ts [] id u e = (u, e, fed_none u)
parts_found ts (p ∷ parts) id u e =
    let r = parts_found (feed_part ts p) parts id u e in
    let q = change_found ts p.track (add_samples p.samples) (λ s. refl) id r.0 r.1 in
    let one : Fed q.0 r.0 = elim q.2 [
      | inl a ↦ subst (λ (x : TrackState). Fed q.0 x) (sym a.1) (fed_added q.0 p.samples)
      | inr same ↦ subst (λ (x : TrackState). Fed x r.0) same (fed_none r.0)
    ] in
    (q.0, q.1, fed_then q.0 r.0 u one r.2)

pub feed_found : (w : World) (f : Option Fragment) (id : ℕ) (u : TrackState) → find_track (feed_step w f).tracks id ≡ Some u → (t : TrackState) × (find_track w.tracks id ≡ Some t) × Fed t u
feed_found w None id u e = (u, e, fed_none u)
feed_found w (Some f) id u e = parts_found w.tracks f.parts id u e

carries_feed : (w : World) (f : Option Fragment) → Carries w.machine.tasks w.machine (feed_step w f).machine
carries_feed w None = carries_same w.machine
carries_feed w (Some f) = carries_more w.machine (map fire_encrypted f.inits)

pub same_track : (ts : List TrackState) (a b : ℕ) (s t : TrackState) → a ≡ b → find_track ts a ≡ Some s → find_track ts b ≡ Some t → s ≡ t
same_track ts a b s t same at there = some_alone s t (sym at ∙ (ap (λ (n : ℕ). find_track ts n) same ∙ there))

-- nothing of a track that waits is put out
no_publish : (ids : List ℕ) (h : List Entry) (id track index place : ℕ) (t : TrackState) → find_track (world ids h).tracks id ≡ Some t → Asleep ids h id t → track ≡ id → MayPublish ids h track index place → ⊥
no_publish ids h id track index place t there a same may =
    let is : may.state ≡ t = same_track (world ids h).tracks track id may.state t same may.known there in
    let next : index ≡ t.published = may.next ∙ ap (λ (s : TrackState). s.published) is in
    a.free place (subst (λ (n : ℕ). LiveOn ids h place id n) next (subst (λ (n : ℕ). LiveOn ids h place n index) same may.live))

no_pass : (ids : List ℕ) (h : List Entry) (id track index : ℕ) (t : TrackState) → find_track (world ids h).tracks id ≡ Some t → Asleep ids h id t → track ≡ id → MayPassClear ids h track index → ⊥
no_pass ids h id track index t there a same may =
    let is : may.state ≡ t = same_track (world ids h).tracks track id may.state t same may.known there in
    let one : may.sample ≡ a.sample = some_alone may.sample a.sample (sym may.fed ∙ (ap head is ∙ a.fed)) in
    let clash : None ≡ Some a.protect = sym may.clear ∙ (ap (λ (s : EncSample). s.protect) one ∙ a.protected) in
    absurd cc

put_out : (ids : List ℕ) (h : List Entry) (e : Entry) (track id : ℕ) (u : TrackState) → AllAsleep ids h → find_track (change_track (world ids h).tracks track one_more) id ≡ Some u → u.waiting ≡ true → ((t : TrackState) → find_track (world ids h).tracks id ≡ Some t → Asleep ids h id t → track ≡ id → ⊥) → (IsOn e id u.published → ⊥) → Carries (world ids h).machine.tasks (world ids h).machine (after_entry (world ids h) e).machine → Asleep ids (h ++ e ∷ []) id u
put_out ids h e track id u all found waits never new c =
    let r = change_found (world ids h).tracks track one_more (λ s. refl) id u found in
    elim r.2 [
      | inl moved ↦ absurd (never r.0 r.1 (all id r.0 r.1 (sym (ap (λ (s : TrackState). s.waiting) moved.1) ∙ waits)) moved.0)
      | inr same ↦ (let at : find_track (world ids h).tracks id ≡ Some u = r.1 ∙ ap (λ (s : TrackState). Some s) (sym same) in stays_asleep ids h e id u u (all id u at waits) refl (λ s f. f) new c)
    ]

no_claim : (ids : List ℕ) (h : List Entry) (id track : ℕ) (s t : TrackState) → find_track (world ids h).tracks id ≡ Some t → t.waiting ≡ true → find_track (world ids h).tracks track ≡ Some s → s.waiting ≡ false → track ≡ id → ⊥
no_claim ids h id track s t there waits known awake same =
    let is : s ≡ t = same_track (world ids h).tracks track id s t same known there in
    true≢false (sym waits ∙ (sym (ap (λ (x : TrackState). x.waiting) is) ∙ awake))

-- a track that begins to wait
asleep_now : (ids : List ℕ) (h : List Entry) (track id : ℕ) (t u : TrackState) → find_track (world ids h).tracks id ≡ Some t → MayWait ids h track → track ≡ id → u ≡ set_waiting t → Asleep ids (h ++ WaitForKey track ∷ []) id u
asleep_now ids h track id t u there may same is =
    let state : may.state ≡ t = same_track (world ids h).tracks track id may.state t same may.known there in
    let out : u.published ≡ may.state.published = ap (λ (s : TrackState). s.published) is ∙ ap (λ (s : TrackState). s.published) (sym state) in
    record {
      sample = may.sample;
      fed = ap head is ∙ (ap head (sym state) ∙ may.fed);
      protect = may.protect;
      protected = may.protected;
      free = λ place on. elim (live_or_new ids h (WaitForKey track) place id u.published on) [
        | inl l ↦ may.free place (subst (λ (n : ℕ). LiveOn ids h place n may.state.published) (sym same) (subst (λ (n : ℕ). LiveOn ids h place id n) out l))
        | inr x ↦ x
      ];
      queued = λ session held.
          let q : is_held (after_entry (world ids h) (WaitForKey track)).machine.moment (after_entry (world ids h) (WaitForKey track)).machine.sessions session may.protect.kid ≡ true = subst (λ (v : World). is_held v.machine.moment v.machine.sessions session may.protect.kid ≡ true) (world_more ids h (WaitForKey track)) held in
          let p : is_some (pick (world ids h).machine may.protect.kid) ≡ true = held_some (world ids h).machine session may.protect.kid q in
          let none : is_some (pick (world ids h).machine may.protect.kid) ≡ false = ap is_some may.unpicked in
          absurd (true≢false (sym p ∙ none));
    }

pub resumed_same_id : (picks : Picks) (s : TrackState) → (resumed_track picks s).id ≡ s.id
resumed_same_id picks s = go (has_pick picks (head s)) where
  go : (b : Bool) → (if b then record s { waiting = false } else s).id ≡ s.id
  go true = refl
  go false = refl

-- a track that still waits after a `Resume` has a head without a pick
still_waits : (b : Bool) (t u : TrackState) → u ≡ (if b then record t { waiting = false } else t) → u.waiting ≡ true → (b ≡ false) × (u ≡ t)
still_waits true t u is waits = absurd (true≢false (sym waits ∙ ap (λ (s : TrackState). s.waiting) is))
still_waits false t u is waits = (refl, is)

head_picked : (picks : Picks) (o : Option EncSample) (s : EncSample) (p : Protect) → o ≡ Some s → s.protect ≡ Some p → has_pick picks o ≡ is_some (picks p.kid)
head_picked picks o s p at protected = ap (has_pick picks) at ∙ ap (protect_picked picks) protected

asleep_resumed : (ids : List ℕ) (h : List Entry) (ts : List Queued) (id : ℕ) (u : TrackState) → (world ids h).machine.tasks ≡ Resume ∷ ts → AllAsleep ids h → find_track (resumed (pick (world ids h).machine) (world ids h).tracks) id ≡ Some u → u.waiting ≡ true → Asleep ids (h ++ Task ∷ []) id u
asleep_resumed ids h ts id u front all found waits =
    let m : Machine = (world ids h).machine in
    let r = map_found (resumed_track (pick m)) (resumed_same_id (pick m)) (world ids h).tracks id u found in
    let w = still_waits (has_pick (pick m) (head r.0)) r.0 u r.2 waits in
    let at : find_track (world ids h).tracks id ≡ Some u = r.1 ∙ ap (λ (s : TrackState). Some s) (sym w.1) in
    let a : Asleep ids h id u = all id u at waits in
    let none : is_some (pick m a.protect.kid) ≡ false = sym (head_picked (pick m) (head r.0) a.sample a.protect (ap head (sym w.1) ∙ a.fed) a.protected) ∙ w.0 in
    let after : (after_entry (world ids h) Task).machine ≡ record m { tasks = ts } = ap (λ (us : List Queued). (take_task us m).machine) front in
    record {
      sample = a.sample;
      fed = a.fed;
      protect = a.protect;
      protected = a.protected;
      free = λ place on. elim (live_or_new ids h Task place id u.published on) [ inl l ↦ a.free place l | inr x ↦ x ];
      queued = λ session held.
          let p : is_held (after_entry (world ids h) Task).machine.moment (after_entry (world ids h) Task).machine.sessions session a.protect.kid ≡ true = subst (λ (v : World). is_held v.machine.moment v.machine.sessions session a.protect.kid ≡ true) (world_more ids h Task) held in
          let q : is_some (pick m a.protect.kid) ≡ true = held_some m session a.protect.kid (subst (λ (k : Machine). is_held k.moment k.sessions session a.protect.kid ≡ true) after p) in
          absurd (true≢false (sym q ∙ none));
    }

-- another task
asleep_ran : (ids : List ℕ) (h : List Entry) (task : Queued) (ts : List Queued) (id : ℕ) (u : TrackState) → (world ids h).machine.tasks ≡ task ∷ ts → (task ≡ Resume → ⊥) → AllAsleep ids h → find_track (world ids h).tracks id ≡ Some u → u.waiting ≡ true → Asleep ids (h ++ Task ∷ []) id u
asleep_ran ids h task ts id u front other all found waits =
    let m : Machine = (world ids h).machine in
    stays_asleep ids h Task id u u (all id u found waits) refl (λ s f. f) (λ x. x) (subst (λ (us : List Queued). Carries us m (take_task us m).machine) (sym front) (carries_task m task ts other))

asleep_task : (ids : List ℕ) (h : List Entry) (us : List Queued) (id : ℕ) (u : TrackState) → (world ids h).machine.tasks ≡ us → us ≢ [] → AllAsleep ids h → find_track (if resumes us then resumed (pick (world ids h).machine) (world ids h).tracks else (world ids h).tracks) id ≡ Some u → u.waiting ≡ true → Asleep ids (h ++ Task ∷ []) id u
asleep_task ids h [] id u front some all found waits = absurd (some refl)
asleep_task ids h (Reject p error ∷ ts) id u front some all found waits = asleep_ran ids h (Reject p error) ts id u front (λ e. cc) all found waits
asleep_task ids h (RequestDone n kids p ∷ ts) id u front some all found waits = asleep_ran ids h (RequestDone n kids p) ts id u front (λ e. cc) all found waits
asleep_task ids h (UpdateDone n changed p ∷ ts) id u front some all found waits = asleep_ran ids h (UpdateDone n changed p) ts id u front (λ e. cc) all found waits
asleep_task ids h (CloseDone n p ∷ ts) id u front some all found waits = asleep_ran ids h (CloseDone n p) ts id u front (λ e. cc) all found waits
asleep_task ids h (RemoveDone n p ∷ ts) id u front some all found waits = asleep_ran ids h (RemoveDone n p) ts id u front (λ e. cc) all found waits
asleep_task ids h (Evicted n ∷ ts) id u front some all found waits = asleep_ran ids h (Evicted n) ts id u front (λ e. cc) all found waits
asleep_task ids h (Report n ∷ ts) id u front some all found waits = asleep_ran ids h (Report n) ts id u front (λ e. cc) all found waits
asleep_task ids h (Fire event ∷ ts) id u front some all found waits = asleep_ran ids h (Fire event) ts id u front (λ e. cc) all found waits
asleep_task ids h (Resume ∷ ts) id u front some all found waits = asleep_resumed ids h ts id u front all found waits

asleep_fed : (ids : List ℕ) (h : List Entry) (line : ℕ) (f : Option Fragment) (id : ℕ) (u : TrackState) → AllAsleep ids h → find_track (feed_step (world ids h) f).tracks id ≡ Some u → u.waiting ≡ true → Asleep ids (h ++ Feed line f ∷ []) id u
asleep_fed ids h line f id u all found waits =
    let r = feed_found (world ids h) f id u found in
    stays_asleep ids h (Feed line f) id r.0 u (all id r.0 r.1 (sym r.2.waiting ∙ waits)) r.2.published r.2.head_ (λ x. x) (carries_feed (world ids h) f)

asleep_waiting : (ids : List ℕ) (h : List Entry) (track id : ℕ) (u : TrackState) → MayWait ids h track → AllAsleep ids h → find_track (change_track (world ids h).tracks track set_waiting) id ≡ Some u → u.waiting ≡ true → Asleep ids (h ++ WaitForKey track ∷ []) id u
asleep_waiting ids h track id u may all found waits =
    let r = change_found (world ids h).tracks track set_waiting (λ s. refl) id u found in
    elim r.2 [
      | inl moved ↦ asleep_now ids h track id r.0 u r.1 may moved.0 moved.1
      | inr same ↦ (let at : find_track (world ids h).tracks id ≡ Some u = r.1 ∙ ap (λ (s : TrackState). Some s) (sym same) in stays_asleep ids h (WaitForKey track) id u u (all id u at waits) refl (λ s f. f) (λ x. x) (carries_more (world ids h).machine (Fire (WaitingForKey track) ∷ [])))
    ]

asleep_after : (ids : List ℕ) (h : List Entry) (e : Entry) (id : ℕ) (u : TrackState) → Allowed ids h e → AllAsleep ids h → find_track (after_entry (world ids h) e).tracks id ≡ Some u → u.waiting ≡ true → Asleep ids (h ++ e ∷ []) id u
asleep_after ids h (Call lane line call) id u may all found waits = stays_asleep ids h (Call lane line call) id u u (all id u found waits) refl (λ s f. f) (λ x. x) (carries_call (world ids h).machine call)
asleep_after ids h Job id u may all found waits = stays_asleep ids h Job id u u (all id u found waits) refl (λ s f. f) (λ x. x) (carries_job (world ids h).machine)
asleep_after ids h Task id u may all found waits = asleep_task ids h (world ids h).machine.tasks id u refl may all found waits
asleep_after ids h (Tick line moment) id u may all found waits = stays_asleep ids h (Tick line moment) id u u (all id u found waits) refl (λ s f. f) (λ x. x) (carries_tick (world ids h).machine moment)
asleep_after ids h (Feed line f) id u may all found waits = asleep_fed ids h line f id u all found waits
asleep_after ids h (Evict line label) id u may all found waits = stays_asleep ids h (Evict line label) id u u (all id u found waits) refl (λ s f. f) (λ x. x) (carries_evict (world ids h).machine label)
asleep_after ids h (Claim worker track index session kid) id u may all found waits = stays_asleep ids h (Claim worker track index session kid) id u u (all id u found waits) refl (λ s f. f) (λ x. no_claim ids h id track may.state u found waits may.known may.awake x.0) (carries_same (world ids h).machine)
asleep_after ids h (Deliver place verdict) id u may all found waits = stays_asleep ids h (Deliver place verdict) id u u (all id u found waits) refl (λ s f. f) (λ x. x) (carries_same (world ids h).machine)
asleep_after ids h (GiveUp place) id u may all found waits = stays_asleep ids h (GiveUp place) id u u (all id u found waits) refl (λ s f. f) (λ x. x) (carries_same (world ids h).machine)
asleep_after ids h (Publish track index place) id u may all found waits = put_out ids h (Publish track index place) track id u all found waits (λ t there a same. no_publish ids h id track index place t there a same may) (λ x. x) (carries_same (world ids h).machine)
asleep_after ids h (PassClear track index) id u may all found waits = put_out ids h (PassClear track index) track id u all found waits (λ t there a same. no_pass ids h id track index t there a same may) (λ x. x) (carries_same (world ids h).machine)
asleep_after ids h (WaitForKey track) id u may all found waits = asleep_waiting ids h track id u may all found waits
asleep_after ids h (Settle line) id u may all found waits = stays_asleep ids h (Settle line) id u u (all id u found waits) refl (λ s f. f) (λ x. x) (carries_same (world ids h).machine)

empty_awake : (ids : List ℕ) (id : ℕ) (t : TrackState) → find_track (map empty_track ids) id ≡ Some t → t.waiting ≡ false
empty_awake [] id t e = absurd cc
empty_awake (i ∷ ids) id t e = elim (eqb_tells i id) [
  | inl p ↦ (let here : Some (empty_track i) ≡ Some t = rw p.0 at e in ap (λ (s : TrackState). s.waiting) (sym (some_alone (empty_track i) t here)))
  | inr p ↦ empty_awake ids id t (rw p.0 at e)
]

none_asleep : (ids : List ℕ) → AllAsleep ids []
unfolding world
none_asleep ids id t e waits = absurd (true≢false (sym waits ∙ empty_awake ids id t e))

-- so it is after each legal history
pub all_asleep : (ids : List ℕ) (h : List Entry) → IsLegal ids h → AllAsleep ids h
all_asleep ids h legal = legal_induction ids (AllAsleep ids) (none_asleep ids) (λ g e l may all id u found waits. asleep_after ids g e id u may all (subst (λ (w : World). find_track w.tracks id ≡ Some u) (world_more ids g e) found) waits) h legal

pub waits_only : WaitsOnlyForKeys
waits_only ids h id t legal found waits = (let a = all_asleep ids h legal id t found waits in record {
  sample = a.sample;
  fed = a.fed;
  protect = a.protect;
  protected = a.protected;
  free = a.free;
  woken = λ session key holds. a.queued session (ap is_some holds);
})

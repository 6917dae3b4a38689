-- What the core chooses is allowed after its history, and where it chooses nothing, nothing is.
use Rattle.std.proofs.Common.{zero, suc, ◌≡◌, ◌≢◌, ℕ, ◌-◌, ◌<◌, Bool, true, false, IsTrue, List, [], ◌∷◌, length, get_or, Option, Some, None, is_some, is_none, inl, inr, refl, ap, sym, subst, ◌∙◌, arith, map, true≢false, ◌↔◌, take, ◌==◌}
use Rattle.std.specs.Prelude.{if◌then◌else◌, slice_get, Contains}
use Rattle.std.proofs.lemmas.List.{get_or-map, length-map}
use Rattle.std.proofs.lemmas.Bool.Decides.{eqb_tells}
use Rattle.eme_types.specs.Fed.{are_distinct}
use Rattle.eme_types.specs.declared.kid.KeyBytes.{KeyBytes}
use Rattle.eme_types.specs.declared.sample.EncSample.{EncSample}
use Rattle.eme_types.specs.declared.sample.Protect.{Protect}
use Rattle.eme_types.specs.declared.call.Effect.{Effect}
use Rattle.eme_types.specs.declared.entry.Entry.{Entry}
use Rattle.eme_types.specs.declared.entry.Entry.TheVariants.{Deliver}
use Rattle.eme_types.specs.declared.entry.Verdict.TheVariants.{Taken}
use Rattle.key_claims.specs.TracksState.{FedTrack, ClaimState, track_of}
use Rattle.key_claims.specs.declared.choice.Work.{Work}
use Rattle.cdm_state.proofs.Copied.{Copied, IsCopied}
use Rattle.key_sessions.specs.Machine.{Machine}
use Rattle.key_sessions.specs.Keys.{pick}
use Rattle.cdm_world.specs.Tracks.{Picks, TrackState, head, find_track, Unpicked, HeadAtRest, TrackAtRest}
use Rattle.key_claims.specs.Choice.{protect_of, protect_at, free_pick, IsWork, IsFirst, IsReady, has_clear_head, is_clear, is_unkeyed, is_free_of, rests, rests_at, rests_protected, AllRest, IsUnrested}
use Rattle.key_sessions.specs.World.{World}
use Rattle.cdm_state.specs.Slots.{entry_of}
use Rattle.key_claims.specs.Claims.{claimed_in}
use Rattle.cdm_world.specs.In.{In}
use Rattle.cdm_state.specs.Claims.{ClaimsKept, ClearKept, LegalKept}
use Rattle.cdm_state.specs.Kept.{world_of}
use Rattle.cdm_state.specs.Contract.{FirstBusy}
use Rattle.cdm_state.specs.History.{world, IsOn, LiveOn, MayClaim, MayPublish, MayPassClear, MayWait, AtRest}
use Rattle.cdm_state.proofs.TrackLists.{same_yes}
use Rattle.cdm_state.proofs.TrackLists.{no_track, unkeyed_awake}
use Rattle.key_claims.proofs.Readiness.{ready_there, ready_claimed}
use Rattle.cdm_state.proofs.TrackIds.{id_of, state_id, world_ids, states_ids, first_here, find_here, or_right}
use Rattle.cdm_state.proofs.Plain.{both_true, some_alone}

-- the slot of a live claim on a sample
pub record SlotOn (claims : List ClaimState) (place track index : ℕ) : Type 0 where
  pub slot : ClaimState
  pub there : In claims slot
  pub place_ : slot.place ≡ place
  pub track_ : slot.track ≡ track
  pub index_ : slot.index ≡ index

pub live_slot : (ids : List ℕ) (h : List Entry) (claims : List ClaimState) (place track index : ℕ) → ClaimsKept ids h claims → LiveOn ids h place track index → SlotOn claims place track index
live_slot ids h claims place track index kept on =
    let found = kept.all place (on.claim, on.key, on.live) in
    let at = (kept.live found.0 found.1).at in
    let there : slice_get h (place - 1) ≡ Some (entry_of found.0) = subst (λ (p : ℕ). slice_get h (p - 1) ≡ Some (entry_of found.0)) found.2 at.1 in
    let same : on.claim ≡ entry_of found.0 = some_alone _ _ (sym on.live.at.1 ∙ there) in
    let both = subst (λ (e : Entry). IsOn e track index) same on.on in
    record { slot = found.0; there = found.1; place_ = found.2; track_ = both.0; index_ = both.1 }

pub slot_live : (ids : List ℕ) (h : List Entry) (claims : List ClaimState) (s : ClaimState) (track index : ℕ) → ClaimsKept ids h claims → In claims s → s.track ≡ track → s.index ≡ index → LiveOn ids h s.place track index
slot_live ids h claims s track index kept there t i = record { claim = entry_of s; key = s.key; live = kept.live s there; on = (t, i) }

claimed_yes : (claims : List ClaimState) (track index : ℕ) (s : ClaimState) → In claims s → s.track ≡ track → s.index ≡ index → claimed_in claims track index ≡ true
claimed_yes [] track index s there t i = absurd there
claimed_yes (x ∷ xs) track index s (inl e) t i =
    let a = same_yes x.track track (ap (λ (y : ClaimState). y.track) e ∙ t) in
    let b = same_yes x.index index (ap (λ (y : ClaimState). y.index) e ∙ i) in
    rw (a, b) refl
claimed_yes (x ∷ xs) track index s (inr m) t i = rw (claimed_yes xs track index s m t i) (or_right _)

claimed_some : (claims : List ClaimState) (track index : ℕ) → claimed_in claims track index ≡ true → (s : ClaimState) × In claims s × (s.track ≡ track) × (s.index ≡ index)
claimed_some [] track index e = absurd cc
claimed_some (x ∷ xs) track index e = elim (eqb_tells x.track track) [
  | inl p ↦ elim (eqb_tells x.index index) [
    | inl q ↦ (x, inl refl, p.1, q.1)
    | inr q ↦ (let r = claimed_some xs track index (rw (p.0, q.0) at e) in (r.0, inr r.1, r.2, r.3))
  ]
  | inr p ↦ (let r = claimed_some xs track index (rw p.0 at e) in (r.0, inr r.1, r.2, r.3))
]

-- a sample that no kept claim is on has no live claim
pub free_of : (ids : List ℕ) (h : List Entry) (claims : List ClaimState) (track index : ℕ) → ClaimsKept ids h claims → claimed_in claims track index ≡ false → (place : ℕ) → LiveOn ids h place track index → ⊥
free_of ids h claims track index kept none place on =
    let s = live_slot ids h claims place track index kept on in
    true≢false (sym (claimed_yes claims track index s.slot s.there s.track_ s.index_) ∙ none)

pub not_claimed : (ids : List ℕ) (h : List Entry) (claims : List ClaimState) (track index : ℕ) → ClaimsKept ids h claims → ((place : ℕ) → LiveOn ids h place track index → ⊥) → claimed_in claims track index ≡ false
not_claimed ids h claims track index kept free = go (claimed_in claims track index) refl where
  go : (b : Bool) → claimed_in claims track index ≡ b → claimed_in claims track index ≡ false
  go false e = e
  go true e = (let r = claimed_some claims track index e in absurd (free r.0.place (slot_live ids h claims r.0 track index kept r.1 r.2 r.3)))

-- the track at a place is found by its id
pub stands_at : (ids : List ℕ) (h : List Entry) (did : List (List Effect)) (m : Machine) (ts : List FedTrack) (claims : List ClaimState) (i : ℕ) (d : FedTrack) → LegalKept ids h did (world_of m ts) claims → IsTrue (are_distinct ids) → i < length ts → find_track (map track_of (take i ts)) (get_or ts i d).id ≡ None
stands_at ids h did m ts claims i d kept distinct lt =
    let same : map id_of ts ≡ ids = sym (states_ids ts) ∙ (ap (λ (w : World). map state_id w.tracks) kept.state ∙ world_ids ids h) in
    first_here ts i (get_or ts i d).id d (ap are_distinct same ∙ distinct) lt refl

pub known_at : (ids : List ℕ) (h : List Entry) (did : List (List Effect)) (m : Machine) (ts : List FedTrack) (claims : List ClaimState) (i : ℕ) (d : FedTrack) → LegalKept ids h did (world_of m ts) claims → IsTrue (are_distinct ids) → i < length ts → find_track (world ids h).tracks (get_or ts i d).id ≡ Some (track_of (get_or ts i d))
known_at ids h did m ts claims i d kept distinct lt =
    subst (λ (w : World). find_track w.tracks (get_or ts i d).id ≡ Some (track_of (get_or ts i d))) kept.state (find_here ts i (get_or ts i d).id d lt (stands_at ids h did m ts claims i d kept distinct lt) refl)

picked_free : (picks : Picks) (claimed : Bool) (o : Option Protect) (p : Protect) (r : ℕ × KeyBytes) → o ≡ Some p → free_pick picks claimed o ≡ Some r → (claimed ≡ false) × (picks p.kid ≡ Some r)
picked_free picks true o p r is e = (let z = rw is at e in absurd cc)
picked_free picks false o p r is e = (refl, rw is at e)

-- a claim
pub may_claim : (ids : List ℕ) (h : List Entry) (did : List (List Effect)) (m : Machine) (ts : List FedTrack) (claims : List ClaimState) (w : Work) (c : Copied) (d : FedTrack) → LegalKept ids h did (world_of m ts) claims → IsTrue (are_distinct ids) → IsWork (pick m) claims ts w → IsCopied (get_or ts w.at d) w.index c → MayClaim ids h (get_or ts w.at d).id w.index w.session c.kid
may_claim ids h did m ts claims w c d kept distinct work copied =
    let t = get_or ts w.at d in
    let on = work.on d in
    let protect : protect_at t.fed w.index ≡ Some copied.protect = ap protect_of copied.sample ∙ copied.protected in
    let free = picked_free (pick m) (claimed_in claims t.id w.index) (protect_at t.fed w.index) copied.protect (w.session, w.key) protect on.picked in
    record {
      state = track_of t;
      known = known_at ids h did m ts claims w.at d kept distinct work.within;
      sample = c.sample;
      fed = copied.sample;
      protect = copied.protect;
      protected = copied.protected;
      same_id = sym copied.kid;
      from = on.from;
      window = on.window;
      awake = on.awake;
      key = w.key;
      picked = subst (λ (v : World). pick v.machine c.kid ≡ Some (w.session, w.key)) kept.state (ap (λ (k : List ℕ). pick m k) copied.kid ∙ free.1);
      free = free_of ids h claims t.id w.index kept.claims free.0;
    }

clear_there : (h : List Entry) (place : ℕ) (o : Option (List ℕ)) → is_some o ≡ true → ClearKept h place o → Contains h (Deliver place Taken)
clear_there h place None e kept = absurd cc
clear_there h place (Some b) e kept = kept

same_number : (a b : ℕ) → (a == b) ≡ true → a ≡ b
same_number a b e = elim (eqb_tells a b) [ inl p ↦ p.1 | inr p ↦ absurd (true≢false (sym e ∙ p.0)) ]

-- a publication
pub record Published (ids : List ℕ) (h : List Entry) (claims : List ClaimState) (t : FedTrack) (place : ℕ) : Type 0 where
  pub may : MayPublish ids h t.id (length t.outputs) place
  pub claim : ClaimState
  pub there : In claims claim
  pub place_ : claim.place ≡ place
  pub track_ : claim.track ≡ t.id
  pub index_ : claim.index ≡ length t.outputs
  pub clear_ : is_some claim.clear ≡ true

pub may_publish : (ids : List ℕ) (h : List Entry) (did : List (List Effect)) (m : Machine) (ts : List FedTrack) (claims : List ClaimState) (at place : ℕ) (d : FedTrack) → LegalKept ids h did (world_of m ts) claims → IsTrue (are_distinct ids) → IsReady claims ts at place → Published ids h claims (get_or ts at d) place
may_publish ids h did m ts claims at place d kept distinct ready =
    let t = get_or ts at d in
    let r = ready_there claims t.id (length t.outputs) place (ready_claimed claims t place (ready.on d)) in
    let s = r.claim in
    let a = both_true _ (is_some s.clear) r.ready in
    let b = both_true _ _ a.0 in
    let track : s.track ≡ t.id = same_number s.track t.id b.0 in
    let index : s.index ≡ length t.outputs = same_number s.index (length t.outputs) b.1 in
    record {
      may = record {
        state = track_of t;
        known = known_at ids h did m ts claims at d kept distinct ready.within;
        next = refl;
        live = subst (λ (p : ℕ). LiveOn ids h p t.id (length t.outputs)) r.place_ (slot_live ids h claims s t.id (length t.outputs) kept.claims r.there track index);
        delivered = subst (λ (p : ℕ). Contains h (Deliver p Taken)) r.place_ (clear_there h s.place s.clear a.1 (kept.claims.clear s r.there));
      };
      claim = s;
      there = r.there;
      place_ = r.place_;
      track_ = track;
      index_ = index;
      clear_ = a.1;
    }

clear_sample : (o : Option EncSample) → is_clear o ≡ true → (s : EncSample) × (o ≡ Some s) × (s.protect ≡ None)
clear_sample None e = absurd cc
clear_sample (Some s) e = (s, refl, none s.protect e) where
  none : (p : Option Protect) → is_none p ≡ true → p ≡ None
  none None e = refl
  none (Some p) e = absurd cc

-- a clear sample
pub may_pass : (ids : List ℕ) (h : List Entry) (did : List (List Effect)) (m : Machine) (ts : List FedTrack) (claims : List ClaimState) (at : ℕ) (d : FedTrack) → LegalKept ids h did (world_of m ts) claims → IsTrue (are_distinct ids) → IsFirst has_clear_head ts at → MayPassClear ids h (get_or ts at d).id (length (get_or ts at d).outputs)
may_pass ids h did m ts claims at d kept distinct first =
    let t = get_or ts at d in
    let s = clear_sample (head (track_of t)) (first.on d) in
    record { state = track_of t; known = known_at ids h did m ts claims at d kept distinct first.within; next = refl; sample = s.0; fed = s.1; clear = s.2 }

free_sample : (picks : Picks) (claimed : Bool) (o : Option EncSample) → is_free_of picks claimed (protect_of o) ≡ true → (s : EncSample) × (p : Protect) × (o ≡ Some s) × (s.protect ≡ Some p) × (claimed ≡ false) × (picks p.kid ≡ None)
free_sample picks claimed None e = absurd cc
free_sample picks claimed (Some s) e = go claimed s.protect refl e where
  none : (o : Option (ℕ × KeyBytes)) → is_none o ≡ true → o ≡ None
  none None e = refl
  none (Some x) e = absurd cc

  go : (b : Bool) (o : Option Protect) → s.protect ≡ o → is_free_of picks b o ≡ true → (x : EncSample) × (p : Protect) × (Some s ≡ Some x) × (x.protect ≡ Some p) × (b ≡ false) × (picks p.kid ≡ None)
  go b None is e = absurd cc
  go true (Some p) is e = absurd cc
  go false (Some p) is e = (s, p, refl, is, refl, none (picks p.kid) e)

off : (b c : Bool) → b ≡ false → (if b then false else c) ≡ true → c ≡ true
off true c is e = absurd cc
off false c is e = e

-- a track that begins to wait
pub may_wait : (ids : List ℕ) (h : List Entry) (did : List (List Effect)) (m : Machine) (ts : List FedTrack) (claims : List ClaimState) (at : ℕ) (d : FedTrack) → LegalKept ids h did (world_of m ts) claims → IsTrue (are_distinct ids) → IsFirst (is_unkeyed (pick m) claims) ts at → MayWait ids h (get_or ts at d).id
may_wait ids h did m ts claims at d kept distinct first =
    let t = get_or ts at d in
    let awake = unkeyed_awake (pick m) claims t (first.on d) in
    let s = free_sample (pick m) (claimed_in claims t.id (length t.outputs)) (head (track_of t)) (off t.waiting _ awake (first.on d)) in
    record {
      state = track_of t;
      known = known_at ids h did m ts claims at d kept distinct first.within;
      awake = awake;
      sample = s.0;
      fed = s.2;
      protect = s.1;
      protected = s.3;
      unpicked = subst (λ (v : World). pick v.machine s.1.kid ≡ None) kept.state s.5;
      free = free_of ids h claims t.id (length t.outputs) kept.claims s.4;
    }

rest_protected : (picks : Picks) (waiting : Bool) (o : Option Protect) → rests_protected picks waiting o ≡ true → IsTrue waiting × Unpicked picks o
rest_protected picks waiting None e = absurd cc
rest_protected picks false (Some p) e = absurd cc
rest_protected picks true (Some p) e = (refl, none (picks p.kid) e) where
  none : (o : Option (ℕ × KeyBytes)) → is_none o ≡ true → o ≡ None
  none None e = refl
  none (Some x) e = absurd cc

rest_head : (picks : Picks) (s : TrackState) (o : Option EncSample) → rests_at picks s.waiting o ≡ true → HeadAtRest picks s o
rest_head picks s None e = tt
rest_head picks s (Some x) e = rest_protected picks s.waiting x.protect e

pub nothing_left : {A : Type 0} (xs : List A) (b : Bool) → (IsTrue b ↔ (xs ≢ [])) → b ≡ false → xs ≡ []
nothing_left [] b told none = refl
nothing_left (x ∷ xs) b told none = absurd (true≢false (sym (told.1 (λ e. cc)) ∙ none))

-- all at rest
pub at_rest : (m : Machine) (ts : List FedTrack) → m.jobs ≡ [] → m.tasks ≡ [] → AllRest (rests (pick m)) ts → AtRest (world_of m ts)
at_rest m ts jobs tasks all = record {
  jobs = jobs;
  tasks = tasks;
  tracks = λ k d lt. (let le : k < length ts = omega (arith, lt, length-map ts track_of) in
      subst (λ (s : TrackState). TrackAtRest (pick m) s) (sym (get_or-map track_of ts k no_track d le)) (rest_head (pick m) (track_of (get_or ts k no_track)) (head (track_of (get_or ts k no_track))) (all k no_track le)));
}

-- the pick of a claim
pub claim_picked : (m : Machine) (ts : List FedTrack) (claims : List ClaimState) (w : Work) (c : Copied) (d : FedTrack) → IsWork (pick m) claims ts w → IsCopied (get_or ts w.at d) w.index c → pick m c.kid ≡ Some (w.session, w.key)
claim_picked m ts claims w c d work copied =
    let t = get_or ts w.at d in
    let protect : protect_at t.fed w.index ≡ Some copied.protect = ap protect_of copied.sample ∙ copied.protected in
    ap (λ (k : List ℕ). pick m k) copied.kid ∙ (picked_free (pick m) (claimed_in claims t.id w.index) (protect_at t.fed w.index) copied.protect (w.session, w.key) protect (work.on d).picked).1

pub any_default : (ts : List FedTrack) (i : ℕ) (d e : FedTrack) → i < length ts → get_or ts i d ≡ get_or ts i e
any_default [] i d e lt = absurd (omega arith)
any_default (t ∷ ts) zero d e lt = refl
any_default (t ∷ ts) (suc i) d e lt = any_default ts i d e (omega arith)

rest_yes : (picks : Picks) (waiting : Bool) (o : Option Protect) → IsTrue waiting → Unpicked picks o → rests_protected picks waiting o ≡ true
rest_yes picks waiting None w u = absurd u
rest_yes picks false (Some p) w u = absurd (true≢false (sym w))
rest_yes picks true (Some p) w u = rw u refl

head_yes : (picks : Picks) (s : TrackState) (o : Option EncSample) → HeadAtRest picks s o → rests_at picks s.waiting o ≡ true
head_yes picks s None r = refl
head_yes picks s (Some x) r = rest_yes picks s.waiting x.protect r.0 r.1

-- the first track that is not at rest
pub first_busy : (m : Machine) (ts : List FedTrack) (at : ℕ) (d : FedTrack) → IsUnrested (rests (pick m)) ts at → FirstBusy (world_of m ts) (get_or ts at d).id
first_busy m ts at d busy = record {
  at = at;
  within = omega (arith, busy.within, length-map ts track_of);
  id = λ e. ap (λ (s : TrackState). s.id) (get_or-map track_of ts at d e busy.within);
  busy = λ e rest. (let t = get_or ts at d in true≢false (sym (head_yes (pick m) (track_of t) (head (track_of t)) (subst (λ (s : TrackState). TrackAtRest (pick m) s) (get_or-map track_of ts at d e busy.within) rest)) ∙ busy.on d));
  before = λ k e lt. (let le : k < length ts = omega (arith, lt, busy.within) in let t = get_or ts k d in subst (λ (s : TrackState). TrackAtRest (pick m) s) (sym (get_or-map track_of ts k d e le)) (rest_head (pick m) (track_of t) (head (track_of t)) (busy.before k d lt)));
}

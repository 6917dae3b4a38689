-- A core that can do nothing more is at rest.
use Rattle.std.proofs.Common.{zero, suc, ◌≡◌, ℕ, ◌+◌, ◌-◌, ◌<◌, inl, inr, Bool, true, false, not, IsTrue, List, [], ◌∷◌, ◌++◌, map, length, get_or, Option, Some, None, is_some, refl, ap, sym, subst, ◌∙◌, arith, true≢false, eqb}
use Rattle.std.specs.Prelude.{Contains, filter}
use Rattle.std.proofs.lemmas.Bool.Decides.{eqb_tells}
use Rattle.eme_types.specs.Fed.{are_distinct, is_among}
use Rattle.eme_types.specs.declared.kid.KeyBytes.{KeyBytes}
use Rattle.eme_types.specs.declared.sample.EncSample.{EncSample}
use Rattle.eme_types.specs.declared.sample.Protect.{Protect}
use Rattle.eme_types.specs.declared.entry.Entry.{Entry}
use Rattle.eme_types.specs.declared.entry.Entry.TheVariants.{Call, Job, Task, Tick, Feed, Evict, Claim, Deliver, GiveUp, Publish, PassClear, WaitForKey, Settle}
use Rattle.eme_types.specs.declared.entry.Verdict.{Verdict}
use Rattle.eme_types.specs.declared.entry.Verdict.TheVariants.{Taken, Stale}
use Rattle.key_claims.specs.TracksState.{ClaimState}
use Rattle.key_sessions.specs.Machine.{Machine}
use Rattle.key_sessions.specs.Keys.{held_key, pick}
use Rattle.cdm_world.specs.Tracks.{TrackState, head, find_track, Unpicked, HeadAtRest}
use Rattle.key_sessions.specs.World.{World}
use Rattle.cdm_state.specs.After.{after_entry}
use Rattle.cdm_state.specs.Output.{fed_at, fed_sample}
use Rattle.cdm_state.specs.Slots.{entry_of, holds_still}
use Rattle.key_claims.specs.Claims.{is_other, has_place, give_clear}
use Rattle.cdm_state.specs.Claims.{ClaimsKept, ClearKept}
use Rattle.cdm_state.specs.History.{world, IsLegal, Allowed, IsAt, LiveOn, MayClaim}
use Rattle.cdm_state.specs.Progress.{NoneWaits, NothingToDo, ComesToRest}
use Rattle.cdm_state.proofs.TrackLists.{same_yes}
use Rattle.cdm_state.proofs.TrackIds.{state_id, world_ids, or_right, and_both, not_true}
use Rattle.cdm_state.proofs.Histories.{world_more, legal_induction}
use Rattle.cdm_state.proofs.Live.{SameKeys, LeavesClaims, EndsOne, claims_go_on, claims_end, live_now}
use Rattle.cdm_state.proofs.Claiming.{pick_holds, claims_new, claims_taken, claims_stale, is_live}
use Rattle.cdm_state.proofs.May.{live_slot}
use Rattle.cdm_state.proofs.FedOn.{fed_since}
use Rattle.cdm_state.specs.Waiting.{resume_queued}
use Rattle.cdm_state.proofs.Usable.{held_picked}
use Rattle.cdm_state.proofs.Resuming.{all_asleep}
use Rattle.cdm_state.proofs.Plain.{nothing_there, some_alone}

-- After each legal history some list of claims is just the live ones.

abbrev pub Keeps : List ℕ → List Entry → Type 0
Keeps ids h = (claims : List ClaimState) × ClaimsKept ids h claims

keeps_left : (ids : List ℕ) (h : List Entry) (e : Entry) → ((claims : List ClaimState) → LeavesClaims e claims) → Keeps ids h → Keeps ids (h ++ e ∷ [])
keeps_left ids h e leaves k = (filter (holds_still (world ids (h ++ e ∷ [])).machine) k.0, claims_go_on ids h e k.0 (leaves k.0) k.1)

same_machine : (ids : List ℕ) (h : List Entry) (e : Entry) → (after_entry (world ids h) e).machine ≡ (world ids h).machine → SameKeys (world ids h).machine (world ids (h ++ e ∷ [])).machine
same_machine ids h e same =
    let all : (world ids (h ++ e ∷ [])).machine ≡ (world ids h).machine = ap (λ (w : World). w.machine) (world_more ids h e) ∙ same in
    record { sessions = ap (λ (m : Machine). m.sessions) all; moment = ap (λ (m : Machine). m.moment) all }

keeps_ended : (ids : List ℕ) (h : List Entry) (e : Entry) (place : ℕ) → EndsOne e place → (after_entry (world ids h) e).machine ≡ (world ids h).machine → Keeps ids h → Keeps ids (h ++ e ∷ [])
keeps_ended ids h e place ends same k = (filter (is_other place) k.0, claims_end ids h e place k.0 ends (same_machine ids h e same) k.1)

keeps_claimed : (ids : List ℕ) (h : List Entry) (worker track index session : ℕ) (kid : List ℕ) → IsLegal ids h → MayClaim ids h track index session kid → Keeps ids h → Keeps ids (h ++ Claim worker track index session kid ∷ [])
keeps_claimed ids h worker track index session kid legal may k =
    let s : ClaimState = record { place = length h + 1; worker = worker; track = track; index = index; session = session; kid = kid; key = may.key; clear = None } in
    (k.0 ++ s ∷ [], claims_new ids h k.0 s legal refl refl (pick_holds (world ids h).machine kid session may.key may.picked) k.1)

keeps_delivered : (ids : List ℕ) (h : List Entry) (place : ℕ) (verdict : Verdict) → Allowed ids h (Deliver place verdict) → Keeps ids h → Keeps ids (h ++ Deliver place verdict ∷ [])
keeps_delivered ids h place Taken may k = (give_clear place [] k.0, claims_taken ids h place [] k.0 k.1)
keeps_delivered ids h place Stale may k = go (has_place place k.0) refl where
  go : (b : Bool) → has_place place k.0 ≡ b → Keeps ids (h ++ Deliver place Stale ∷ [])
  go true there = (let late : Stale ≡ Taken = may.1.1 (is_live ids h place k.0 k.1 there) in absurd cc)
  go false gone = (k.0, claims_stale ids h place k.0 gone k.1)

keeps_more : (ids : List ℕ) (h : List Entry) (e : Entry) → IsLegal ids h → Allowed ids h e → Keeps ids h → Keeps ids (h ++ e ∷ [])
keeps_more ids h (Call lane line call) legal may k = keeps_left ids h (Call lane line call) (λ cs. record { plain = λ w t i n k x. cc; ends = λ p x. x; spends = λ s there x. x }) k
keeps_more ids h Job legal may k = keeps_left ids h Job (λ cs. record { plain = λ w t i n k x. cc; ends = λ p x. x; spends = λ s there x. x }) k
keeps_more ids h Task legal may k = keeps_left ids h Task (λ cs. record { plain = λ w t i n k x. cc; ends = λ p x. x; spends = λ s there x. x }) k
keeps_more ids h (Tick line moment) legal may k = keeps_left ids h (Tick line moment) (λ cs. record { plain = λ w t i n k x. cc; ends = λ p x. x; spends = λ s there x. x }) k
keeps_more ids h (Feed line fragment) legal may k = keeps_left ids h (Feed line fragment) (λ cs. record { plain = λ w t i n k x. cc; ends = λ p x. x; spends = λ s there x. x }) k
keeps_more ids h (Evict line label) legal may k = keeps_left ids h (Evict line label) (λ cs. record { plain = λ w t i n k x. cc; ends = λ p x. x; spends = λ s there x. x }) k
keeps_more ids h (Claim worker track index session kid) legal may k = keeps_claimed ids h worker track index session kid legal may k
keeps_more ids h (Deliver place verdict) legal may k = keeps_delivered ids h place verdict may k
keeps_more ids h (GiveUp place) legal may k = keeps_ended ids h (GiveUp place) place (record { plain = λ w t i n k x. cc; this = refl; ends = λ p x. x; spends = λ p x. x }) refl k
keeps_more ids h (Publish track index place) legal may k = keeps_ended ids h (Publish track index place) place (record { plain = λ w t i n k x. cc; this = refl; ends = λ p x. x; spends = λ p x. absurd x }) refl k
keeps_more ids h (PassClear track index) legal may k = keeps_left ids h (PassClear track index) (λ cs. record { plain = λ w t i n k x. cc; ends = λ p x. x; spends = λ s there x. x }) k
keeps_more ids h (WaitForKey track) legal may k = keeps_left ids h (WaitForKey track) (λ cs. record { plain = λ w t i n k x. cc; ends = λ p x. x; spends = λ s there x. x }) k
keeps_more ids h (Settle line) legal may k = keeps_left ids h (Settle line) (λ cs. record { plain = λ w t i n k x. cc; ends = λ p x. x; spends = λ s there x. x }) k

keeps_none : (ids : List ℕ) → Keeps ids []
keeps_none ids = ([], record { live = λ s there. absurd there; all = λ place live. absurd (nothing_there (place - 1) live.0 live.2.at.1); clear = λ s there. absurd there; once = tt })

pub keeps : (ids : List ℕ) (h : List Entry) → IsLegal ids h → Keeps ids h
keeps ids h legal = legal_induction ids (Keeps ids) (keeps_none ids) (λ g e l may k. keeps_more ids g e l may k) h legal

clear_or_waits : (h : List Entry) (place : ℕ) (o : Option (List ℕ)) → NoneWaits h → ClearKept h place o → Contains h (Deliver place Taken)
clear_or_waits h place None none waits = absurd (none place waits)
clear_or_waits h place (Some bytes) none there = there

-- a live claim was delivered, where none waits for it
delivered : (ids : List ℕ) (h : List Entry) (place track index : ℕ) → IsLegal ids h → NoneWaits h → LiveOn ids h place track index → Contains h (Deliver place Taken)
delivered ids h place track index legal none on =
    let k = keeps ids h legal in
    let s = live_slot ids h k.0 place track index k.1 on in
    subst (λ (p : ℕ). Contains h (Deliver p Taken)) s.place_ (clear_or_waits h s.slot.place s.slot.clear none (k.1.clear s.slot s.there))

-- the key id of a live claim is that of its sample
sample_kid : (ids : List ℕ) (h : List Entry) (s : ClaimState) (x : EncSample) (p : Protect) → IsLegal ids h → IsAt h s.place (entry_of s) → fed_sample (world ids h) s.track s.index ≡ Some x → x.protect ≡ Some p → s.kid ≡ p.kid
unfolding IsLegal
sample_kid ids h s x p legal at fed protected =
    let may = legal (s.place - 1) (entry_of s) at.1 in
    let was : fed_sample (world ids h) s.track s.index ≡ Some may.sample = fed_since ids h (s.place - 1) s.track s.index may.sample (ap (λ (o : Option TrackState). fed_at o s.index) may.known ∙ may.fed) in
    let same : may.sample ≡ x = some_alone may.sample x (sym was ∙ fed) in
    let one : may.protect ≡ p = some_alone may.protect p (sym may.protected ∙ (ap (λ (y : EncSample). y.protect) same ∙ protected)) in
    sym may.same_id ∙ ap (λ (q : Protect). q.kid) one

-- so its key id has a pick
live_picked : (ids : List ℕ) (h : List Entry) (place track index : ℕ) (x : EncSample) (p : Protect) → IsLegal ids h → LiveOn ids h place track index → fed_sample (world ids h) track index ≡ Some x → x.protect ≡ Some p → is_some (pick (world ids h).machine p.kid) ≡ true
live_picked ids h place track index x p legal on fed protected =
    let k = keeps ids h legal in
    let s = live_slot ids h k.0 place track index k.1 on in
    let live = k.1.live s.slot s.there in
    let here : fed_sample (world ids h) s.slot.track s.slot.index ≡ Some x = rw (s.track_, s.index_) fed in
    let kid : s.slot.kid ≡ p.kid = sample_kid ids h s.slot x p legal live.at here protected in
    subst (λ (i : List ℕ). is_some (pick (world ids h).machine i) ≡ true) kid (held_picked (world ids h).machine s.slot.session s.slot.kid s.slot.key (live_now ids h s.slot.place (entry_of s.slot) s.slot.key live))

module _ (ids : List ℕ) (h : List Entry) (legal : IsLegal ids h) (none : NoneWaits h) (idle : NothingToDo ids h) (t : TrackState) (known : find_track (world ids h).tracks t.id ≡ Some t) (x : EncSample) (fed : head t ≡ Some x) (p : Protect) (protected : x.protect ≡ Some p) where
  -- a track that waits rests: what would look at it again is not queued
  waiting_rests : (o : Option (ℕ × KeyBytes)) → t.waiting ≡ true → pick (world ids h).machine p.kid ≡ o → IsTrue t.waiting × Unpicked (pick (world ids h).machine) (Some p)
  waiting_rests None waits picked = (waits, picked)
  waiting_rests (Some r) waits picked =
      let a = all_asleep ids h legal t.id t known waits in
      let one : a.sample ≡ x = some_alone a.sample x (sym a.fed ∙ fed) in
      let same : a.protect ≡ p = some_alone a.protect p (sym a.protected ∙ (ap (λ (y : EncSample). y.protect) one ∙ protected)) in
      let holds : held_key (world ids h).machine r.0 a.protect.kid ≡ Some r.1 = ap (λ (q : Protect). held_key (world ids h).machine r.0 q.kid) same ∙ pick_holds (world ids h).machine p.kid r.0 r.1 picked in
      absurd (true≢false (sym (a.queued r.0 (ap is_some holds)) ∙ ap (resume_queued r.0) idle.tasks))

  -- a track that does not wait may begin to, be claimed on or give its sample out
  awake_moves : (o : Option (ℕ × KeyBytes)) → t.waiting ≡ false → pick (world ids h).machine p.kid ≡ o → ⊥
  awake_moves None awake picked =
      idle.wait t.id (record {
        state = t;
        known = known;
        awake = awake;
        sample = x;
        fed = fed;
        protect = p;
        protected = protected;
        unpicked = picked;
        free = λ place on. true≢false (sym (live_picked ids h place t.id t.published x p legal on (ap (λ (o : Option TrackState). fed_at o t.published) known ∙ fed) protected) ∙ ap is_some picked);
      })
  awake_moves (Some r) awake picked =
      idle.claim t.id t.published r.0 p.kid (record {
        state = t;
        known = known;
        sample = x;
        fed = fed;
        protect = p;
        protected = protected;
        same_id = refl;
        from = omega arith;
        window = omega arith;
        awake = awake;
        key = r.1;
        picked = picked;
        free = λ place on. idle.publish t.id t.published place (record { state = t; known = known; next = refl; live = on; delivered = delivered ids h place t.id t.published legal none on });
      })

  protected_rests : (b : Bool) → t.waiting ≡ b → IsTrue t.waiting × Unpicked (pick (world ids h).machine) (Some p)
  protected_rests true waits = waiting_rests (pick (world ids h).machine p.kid) waits refl
  protected_rests false awake = absurd (awake_moves (pick (world ids h).machine p.kid) awake refl)

sample_rests : (ids : List ℕ) (h : List Entry) → IsLegal ids h → NoneWaits h → NothingToDo ids h → (t : TrackState) → find_track (world ids h).tracks t.id ≡ Some t → (x : EncSample) → head t ≡ Some x → (o : Option Protect) → x.protect ≡ o → IsTrue t.waiting × Unpicked (pick (world ids h).machine) o
sample_rests ids h legal none idle t known x fed None clear = absurd (idle.pass t.id t.published (record { state = t; known = known; next = refl; sample = x; fed = fed; clear = clear }))
sample_rests ids h legal none idle t known x fed (Some p) protected = protected_rests ids h legal none idle t known x fed p protected t.waiting refl

head_rests : (ids : List ℕ) (h : List Entry) → IsLegal ids h → NoneWaits h → NothingToDo ids h → (t : TrackState) → find_track (world ids h).tracks t.id ≡ Some t → (o : Option EncSample) → head t ≡ o → HeadAtRest (pick (world ids h).machine) t o
head_rests ids h legal none idle t known None fed = tt
head_rests ids h legal none idle t known (Some x) fed = sample_rests ids h legal none idle t known x fed x.protect refl

-- the track at a place is found by its id

among_states : (ts : List TrackState) (k : ℕ) (d : TrackState) (id : ℕ) → k < length ts → (get_or ts k d).id ≡ id → is_among (map state_id ts) id ≡ true
among_states [] k d id lt same = absurd (omega arith)
among_states (s ∷ ts) zero d id lt same = rw (same_yes s.id id same) refl
among_states (s ∷ ts) (suc k) d id lt same = rw (among_states ts k d id (omega arith) same) (or_right (eqb s.id id))

found_here : (ts : List TrackState) (k : ℕ) (d : TrackState) → are_distinct (map state_id ts) ≡ true → k < length ts → find_track ts (get_or ts k d).id ≡ Some (get_or ts k d)
found_here [] k d distinct lt = absurd (omega arith)
found_here (s ∷ ts) zero d distinct lt = rw (same_yes s.id s.id refl) refl
found_here (s ∷ ts) (suc k) d distinct lt =
    let both = and_both (not (is_among (map state_id ts) s.id)) (are_distinct (map state_id ts)) distinct in
    elim (eqb_tells s.id (get_or ts k d).id) [
      | inl p ↦ absurd (not_true (is_among (map state_id ts) s.id) both.0 (among_states ts k d s.id (omega arith) (sym p.1)))
      | inr p ↦ rw p.0 (found_here ts k d both.1 (omega arith))
    ]

pub comes_to_rest : ComesToRest
comes_to_rest ids h distinct legal none idle = record {
  jobs = idle.jobs;
  tasks = idle.tasks;
  tracks = λ k d lt.
      let t : TrackState = get_or (world ids h).tracks k d in
      let known : find_track (world ids h).tracks t.id ≡ Some t = found_here (world ids h).tracks k d (ap are_distinct (world_ids ids h) ∙ distinct) lt in
      head_rests ids h legal none idle t known (head t) refl;
}

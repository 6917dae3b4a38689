-- What was fed stays, and is well formed.
use Rattle.std.proofs.Common.{zero, suc, ◌≡◌, ℕ, ◌+◌, ◌-◌, ◌≤◌, Bool, true, false, IsTrue, List, [], ◌∷◌, ◌++◌, length, get_or, Option, Some, None, inl, inr, refl, ap, sym, subst, ◌∙◌, arith, map, take, drop, take-append-drop, length-append}
use Rattle.std.specs.Prelude.{if◌then◌else◌, slice_get, is_some, Contains, ◌==◌}
use Rattle.std.specs.List.{fold, list_all}
use Rattle.std.proofs.lemmas.List.{take_all}
use Rattle.std.proofs.lemmas.List.Sums.{fold-append}
use Rattle.std.proofs.lemmas.List.Folds.{list_all-append}
use Rattle.std.proofs.lemmas.Option.{slice_get-get_or, slice_get_within}
use Rattle.std.proofs.lemmas.Bool.Decides.{eqb_tells}
use Rattle.eme_types.specs.WellFormed.{is_well_formed}
use Rattle.eme_types.specs.declared.sample.EncSample.{EncSample}
use Rattle.eme_types.specs.declared.sample.Protect.{Protect}
use Rattle.eme_types.specs.declared.media.TrackPart.{TrackPart}
use Rattle.eme_types.specs.declared.media.Fragment.{Fragment}
use Rattle.eme_types.specs.declared.call.Effect.{Effect}
use Rattle.eme_types.specs.declared.entry.Entry.{Entry}
use Rattle.eme_types.specs.declared.entry.Entry.TheVariants.{Call, Job, Task, Tick, Feed, Evict, Claim, Deliver, GiveUp, Publish, PassClear, WaitForKey, Settle}
use Rattle.eme_types.specs.declared.entry.Verdict.TheVariants.{Taken}
use Rattle.key_claims.specs.declared.claim.Claim.{Claim as Held}
use Rattle.key_claims.specs.TracksState.{FedTrack, ClaimState, track_of}
use Rattle.key_sessions.specs.Machine.{Machine}
use Rattle.key_sessions.specs.Keys.{pick, held_key}
use Rattle.cdm_world.specs.Tracks.{Picks, TrackState, empty_track, head, has_pick, find_track, change_track, feed_part, feed_parts, add_samples, one_more, set_waiting, resumed}
use Rattle.key_sessions.specs.World.{World, empty_world, resumes}
use Rattle.cdm_state.specs.After.{after_entry, feed_step}
use Rattle.cdm_state.specs.Output.{fed_at, fed_sample}
use Rattle.cdm_state.specs.Contract.{IsOpen}
use Rattle.cdm_state.specs.Claims.{HasKid, ClearKept, LegalKept}
use Rattle.cdm_state.specs.Kept.{world_of}
use Rattle.key_claims.specs.Claims.{is_ready}
use Rattle.key_claims.specs.Choice.{ready_on, NoneReady, IsWork}
use Rattle.cdm_state.proofs.Copied.{IsCopied, Copied}
use Rattle.key_claims.specs.declared.choice.Work.{Work}
use Rattle.eme_types.specs.Fed.{are_distinct}
use Rattle.cdm_state.specs.History.{world, IsLegal, Allowed, IsAt, Spends, MayPublish}
use Rattle.cdm_state.proofs.Places.{either_place, slice_get_last}
use Rattle.cdm_state.proofs.Histories.{world_more, legal_induction}
use Rattle.cdm_state.proofs.Claiming.{none_names_next, pick_holds}
use Rattle.cdm_state.proofs.TrackLists.{same_yes}
use Rattle.cdm_state.proofs.TrackLists.{no_track}
use Rattle.cdm_state.proofs.May.{live_slot, known_at, claim_picked}
use Rattle.cdm_state.proofs.Exact.{found_in}
use Rattle.key_claims.proofs.Readiness.{ready_some}
use Rattle.cdm_state.proofs.Plain.{both_true}
use Rattle.cdm_world.proofs.ItemsAt.{get_left}

change_fed : (ts : List TrackState) (id : ℕ) (f : TrackState → TrackState) (t i : ℕ) (x : EncSample) → ((s : TrackState) → (f s).id ≡ s.id) → ((s : TrackState) → slice_get s.fed i ≡ Some x → slice_get (f s).fed i ≡ Some x) → fed_at (find_track ts t) i ≡ Some x → fed_at (find_track (change_track ts id f) t) i ≡ Some x
change_fed [] id f t i x same up at = absurd cc
change_fed (s ∷ ts) id f t i x same up at = elim (eqb_tells s.id id) [
  | inl p ↦ rw p.0 (elim (eqb_tells s.id t) [ inl q ↦ rw (same s, q.0) (up s (rw q.0 at at)) | inr q ↦ rw (same s, q.0) (rw q.0 at at) ])
  | inr p ↦ rw p.0 (elim (eqb_tells s.id t) [ inl q ↦ rw q.0 (rw q.0 at at) | inr q ↦ rw q.0 (change_fed ts id f t i x same up (rw q.0 at at)) ])
]

resumed_one_fed : (b : Bool) (s : TrackState) (t i : ℕ) (x : EncSample) (o p : Option TrackState) → fed_at (if s.id == t then Some s else o) i ≡ Some x → (fed_at o i ≡ Some x → fed_at p i ≡ Some x) → fed_at (if (if b then record s { waiting = false } else s).id == t then Some (if b then record s { waiting = false } else s) else p) i ≡ Some x
resumed_one_fed true s t i x o p at rest = elim (eqb_tells s.id t) [ inl q ↦ rw q.0 (rw q.0 at at) | inr q ↦ rw q.0 (rest (rw q.0 at at)) ]
resumed_one_fed false s t i x o p at rest = elim (eqb_tells s.id t) [ inl q ↦ rw q.0 (rw q.0 at at) | inr q ↦ rw q.0 (rest (rw q.0 at at)) ]

resumed_fed : (picks : Picks) (ts : List TrackState) (t i : ℕ) (x : EncSample) → fed_at (find_track ts t) i ≡ Some x → fed_at (find_track (resumed picks ts) t) i ≡ Some x
resumed_fed picks [] t i x at = absurd cc
resumed_fed picks (s ∷ ts) t i x at = resumed_one_fed (has_pick picks (head s)) s t i x (find_track ts t) (find_track (resumed picks ts) t) at (λ m. resumed_fed picks ts t i x m)

task_fed : (b : Bool) (picks : Picks) (ts : List TrackState) (t i : ℕ) (x : EncSample) → fed_at (find_track ts t) i ≡ Some x → fed_at (find_track (if b then resumed picks ts else ts) t) i ≡ Some x
task_fed true picks ts t i x at = resumed_fed picks ts t i x at
task_fed false picks ts t i x at = at

parts_fed : (ts : List TrackState) (parts : List TrackPart) (t i : ℕ) (x : EncSample) → fed_at (find_track ts t) i ≡ Some x → fed_at (find_track (feed_parts ts parts) t) i ≡ Some x
parts_fed ts [] t i x at = at
parts_fed ts (p ∷ parts) t i x at = parts_fed (feed_part ts p) parts t i x (change_fed ts p.track (add_samples p.samples) t i x (λ s. refl) (λ s m. get_left s.fed p.samples i x m) at)

feed_fed : (w : World) (f : Option Fragment) (t i : ℕ) (x : EncSample) → fed_sample w t i ≡ Some x → fed_sample (feed_step w f) t i ≡ Some x
feed_fed w None t i x at = at
feed_fed w (Some f) t i x at = parts_fed w.tracks f.parts t i x at

-- an entry takes no sample away
pub fed_stays : (w : World) (e : Entry) (t i : ℕ) (x : EncSample) → fed_sample w t i ≡ Some x → fed_sample (after_entry w e) t i ≡ Some x
fed_stays w (Call lane line call) t i x at = at
fed_stays w Job t i x at = at
fed_stays w Task t i x at = task_fed (resumes w.machine.tasks) (pick w.machine) w.tracks t i x at
fed_stays w (Tick line moment) t i x at = at
fed_stays w (Feed line fragment) t i x at = feed_fed w fragment t i x at
fed_stays w (Evict line label) t i x at = at
fed_stays w (Claim worker track index session kid) t i x at = at
fed_stays w (Deliver place verdict) t i x at = at
fed_stays w (GiveUp place) t i x at = at
fed_stays w (Publish track index place) t i x at = change_fed w.tracks track one_more t i x (λ s. refl) (λ s m. m) at
fed_stays w (PassClear track index) t i x at = change_fed w.tracks track one_more t i x (λ s. refl) (λ s m. m) at
fed_stays w (WaitForKey track) t i x at = change_fed w.tracks track set_waiting t i x (λ s. refl) (λ s m. m) at
fed_stays w (Settle line) t i x at = at

fed_through : (w : World) (es : List Entry) (t i : ℕ) (x : EncSample) → fed_sample w t i ≡ Some x → fed_sample (fold after_entry w es) t i ≡ Some x
fed_through w [] t i x at = at
fed_through w (e ∷ es) t i x at = fed_through (after_entry w e) es t i x (fed_stays w e t i x at)

pub fed_since : (ids : List ℕ) (h : List Entry) (n t i : ℕ) (x : EncSample) → fed_sample (world ids (take n h)) t i ≡ Some x → fed_sample (world ids h) t i ≡ Some x
unfolding world
fed_since ids h n t i x at =
    let on : fed_sample (fold after_entry (empty_world ids) (take n h ++ drop n h)) t i ≡ Some x = subst (λ (w : World). fed_sample w t i ≡ Some x) (sym (fold-append after_entry (empty_world ids) (take n h) (drop n h))) (fed_through (fold after_entry (empty_world ids) (take n h)) (drop n h) t i x at) in
    subst (λ (g : List Entry). fed_sample (fold after_entry (empty_world ids) g) t i ≡ Some x) (take-append-drop n h) on

-- the sample of a claim was fed
pub claimed_fed : (ids : List ℕ) (h : List Entry) (place worker track index session : ℕ) (kid : List ℕ) → IsLegal ids h → IsAt h place (Claim worker track index session kid) → (x : EncSample) × (fed_sample (world ids h) track index ≡ Some x)
unfolding IsLegal
claimed_fed ids h place worker track index session kid legal at =
    let may = legal (place - 1) (Claim worker track index session kid) at.1 in
    (may.sample, fed_since ids h (place - 1) track index may.sample (ap (λ (o : Option TrackState). fed_at o index) may.known ∙ may.fed))

clear_is_some : (h : List Entry) (place : ℕ) (o : Option (List ℕ)) → ClearKept h place o → Contains h (Deliver place Taken) → is_some o ≡ true
clear_is_some h place None u there = absurd (u.none there.0 (Deliver place Taken) (slice_get-get_or h there.0 (Deliver place Taken) there.1 ∙ ap (λ (e : Entry). Some e) there.2) refl)
clear_is_some h place (Some b) u there = refl

-- a track that may publish is ready
pub publish_on : (ids : List ℕ) (h : List Entry) (did : List (List Effect)) (m : Machine) (ts : List FedTrack) (claims : List ClaimState) (t : FedTrack) (track index place : ℕ) → LegalKept ids h did (world_of m ts) claims → (may : MayPublish ids h track index place) → track_of t ≡ may.state → t.id ≡ track → (p : ℕ) × (ready_on claims t ≡ Some p)
publish_on ids h did m ts claims t track index place kept may is id =
    let out : length t.outputs ≡ may.state.published = ap (λ (s : TrackState). s.published) is in
    let s = live_slot ids h claims place track index kept.claims may.live in
    let fed = claimed_fed ids h s.slot.place s.slot.worker s.slot.track s.slot.index s.slot.session s.slot.kid kept.legal (kept.claims.live s.slot s.there).at in
    let sample : fed_sample (world ids h) track index ≡ Some fed.0 = subst (λ n. fed_sample (world ids h) track n ≡ Some fed.0) s.index_ (subst (λ n. fed_sample (world ids h) n s.slot.index ≡ Some fed.0) s.track_ fed.1) in
    let here : slice_get t.fed index ≡ Some fed.0 = ap (λ (x : TrackState). slice_get x.fed index) is ∙ (sym (ap (λ (o : Option TrackState). fed_at o index) may.known) ∙ sample) in
    let within = slice_get_within t.fed index fed.0 here in
    let clear : is_some s.slot.clear ≡ true = clear_is_some h s.slot.place s.slot.clear (kept.claims.clear s.slot s.there) (subst (λ n. Contains h (Deliver n Taken)) (sym s.place_) may.delivered) in
    let a = same_yes s.slot.track t.id (s.track_ ∙ sym id) in
    let b = same_yes s.slot.index (length t.outputs) (s.index_ ∙ (may.next ∙ sym out)) in
    let ready : is_ready t.id (length t.outputs) s.slot ≡ true = rw (a, b, clear) refl in
    ready_some claims t s.slot (omega (arith, out, may.next, within)) s.there ready

pub some_none : (o : Option ℕ) (p : ℕ) → o ≡ Some p → o ≡ None → ⊥
some_none o p some none = (let z : Some p ≡ None = sym some ∙ none in absurd cc)

-- where no track is ready, no publication is allowed
pub no_publish : (ids : List ℕ) (h : List Entry) (did : List (List Effect)) (m : Machine) (ts : List FedTrack) (claims : List ClaimState) → LegalKept ids h did (world_of m ts) claims → NoneReady claims ts → (track index place : ℕ) → MayPublish ids h track index place → ⊥
no_publish ids h did m ts claims kept none track index place may =
    let f = found_in ids h did m ts claims track may.state kept may.known in
    let t = get_or ts f.place no_track in
    let is = f.is no_track in
    let r = publish_on ids h did m ts claims t track index place kept may is (ap (λ (s : TrackState). s.id) is ∙ f.same) in
    some_none (ready_on claims t) r.0 r.1 (none f.place no_track f.within)

-- samples that were fed are well formed

abbrev AreFormed : List TrackState → Type 0
AreFormed [] = Unit {0}
AreFormed (s ∷ ts) = (list_all is_well_formed s.fed ≡ true) × AreFormed ts

change_formed : (ts : List TrackState) (id : ℕ) (f : TrackState → TrackState) → ((s : TrackState) → list_all is_well_formed s.fed ≡ true → list_all is_well_formed (f s).fed ≡ true) → AreFormed ts → AreFormed (change_track ts id f)
change_formed [] id f up formed = tt
change_formed (s ∷ ts) id f up formed = elim (eqb_tells s.id id) [
  | inl p ↦ rw p.0 (up s formed.0, formed.1)
  | inr p ↦ rw p.0 (formed.0, change_formed ts id f up formed.1)
]

resumed_same : (b : Bool) (s : TrackState) → list_all is_well_formed s.fed ≡ true → list_all is_well_formed (if b then record s { waiting = false } else s).fed ≡ true
resumed_same true s e = e
resumed_same false s e = e

resumed_formed : (picks : Picks) (ts : List TrackState) → AreFormed ts → AreFormed (resumed picks ts)
resumed_formed picks [] formed = tt
resumed_formed picks (s ∷ ts) formed = (resumed_same (has_pick picks (head s)) s formed.0, resumed_formed picks ts formed.1)

task_formed : (b : Bool) (picks : Picks) (ts : List TrackState) → AreFormed ts → AreFormed (if b then resumed picks ts else ts)
task_formed true picks ts formed = resumed_formed picks ts formed
task_formed false picks ts formed = formed

abbrev part_formed : TrackPart → Bool
part_formed p = list_all is_well_formed p.samples

parts_formed : (ts : List TrackState) (parts : List TrackPart) → list_all part_formed parts ≡ true → AreFormed ts → AreFormed (feed_parts ts parts)
parts_formed ts [] all formed = formed
parts_formed ts (p ∷ parts) all formed =
    let both = both_true (part_formed p) (list_all part_formed parts) all in
    parts_formed (feed_part ts p) parts both.1 (change_formed ts p.track (add_samples p.samples) (λ s e. list_all-append is_well_formed s.fed p.samples ∙ rw (e, both.0) refl) formed)

entry_formed : (ids : List ℕ) (h : List Entry) (e : Entry) → Allowed ids h e → AreFormed (world ids h).tracks → AreFormed (after_entry (world ids h) e).tracks
entry_formed ids h (Call lane line call) may formed = formed
entry_formed ids h Job may formed = formed
entry_formed ids h Task may formed = task_formed (resumes (world ids h).machine.tasks) (pick (world ids h).machine) (world ids h).tracks formed
entry_formed ids h (Tick line moment) may formed = formed
entry_formed ids h (Feed line None) may formed = formed
entry_formed ids h (Feed line (Some f)) may formed = parts_formed (world ids h).tracks f.parts may.formed formed
entry_formed ids h (Evict line label) may formed = formed
entry_formed ids h (Claim worker track index session kid) may formed = formed
entry_formed ids h (Deliver place verdict) may formed = formed
entry_formed ids h (GiveUp place) may formed = formed
entry_formed ids h (Publish track index place) may formed = change_formed (world ids h).tracks track one_more (λ s e. e) formed
entry_formed ids h (PassClear track index) may formed = change_formed (world ids h).tracks track one_more (λ s e. e) formed
entry_formed ids h (WaitForKey track) may formed = change_formed (world ids h).tracks track set_waiting (λ s e. e) formed
entry_formed ids h (Settle line) may formed = formed

empty_formed : (ids : List ℕ) → AreFormed (map empty_track ids)
empty_formed [] = tt
empty_formed (id ∷ ids) = (refl, empty_formed ids)

start_formed : (ids : List ℕ) → AreFormed (world ids []).tracks
unfolding world
start_formed ids = empty_formed ids

all_formed : (ids : List ℕ) (h : List Entry) → IsLegal ids h → AreFormed (world ids h).tracks
all_formed ids h legal = legal_induction ids (λ g. AreFormed (world ids g).tracks) (start_formed ids) (λ g e l may formed. subst (λ (w : World). AreFormed w.tracks) (sym (world_more ids g e)) (entry_formed ids g e may formed)) h legal

formed_get : (xs : List EncSample) (i : ℕ) (x : EncSample) → list_all is_well_formed xs ≡ true → slice_get xs i ≡ Some x → IsTrue (is_well_formed x)
formed_get [] i x all at = absurd cc
formed_get (y ∷ ys) zero x all at = (let same : y ≡ x = some_alone _ _ at in subst (λ (z : EncSample). is_well_formed z ≡ true) same (both_true (is_well_formed y) (list_all is_well_formed ys) all).0) where
  some_alone : (a b : EncSample) → Some a ≡ Some b → a ≡ b
  some_alone a b e = cc
formed_get (y ∷ ys) (suc i) x all at = formed_get ys i x (both_true (is_well_formed y) (list_all is_well_formed ys) all).1 at

formed_found : (ts : List TrackState) (t i : ℕ) (x : EncSample) → AreFormed ts → fed_at (find_track ts t) i ≡ Some x → IsTrue (is_well_formed x)
formed_found [] t i x formed at = absurd cc
formed_found (s ∷ ts) t i x formed at = elim (eqb_tells s.id t) [
  | inl p ↦ formed_get s.fed i x formed.0 (rw p.0 at at)
  | inr p ↦ formed_found ts t i x formed.1 (rw p.0 at at)
]

pub fed_formed : (ids : List ℕ) (h : List Entry) (t i : ℕ) (x : EncSample) → IsLegal ids h → fed_sample (world ids h) t i ≡ Some x → IsTrue (is_well_formed x)
fed_formed ids h t i x legal at = formed_found (world ids h).tracks t i x (all_formed ids h legal) at

-- a new claim is open
pub open_new : (ids : List ℕ) (h : List Entry) (kid : List ℕ) (c : Held) → IsLegal ids h → c.place ≡ length h + 1 → held_key (world ids h).machine c.session kid ≡ Some c.key → fed_sample (world ids h) c.track c.index ≡ Some c.sample → IsOpen (record { tracks = ids; history = h ++ Claim c.worker c.track c.index c.session kid ∷ [] }) c
open_new ids h kid c legal place key sample =
    let e = Claim c.worker c.track c.index c.session kid in
    let back : c.place - 1 ≡ length h = omega (arith, place) in
    let all : length (h ++ e ∷ []) ≤ c.place = omega (arith, place, length-append h (e ∷ [])) in
    let then_ : world ids (take c.place (h ++ e ∷ [])) ≡ world ids h = ap (λ (g : List Entry). world ids g) (take_all c.place (h ++ e ∷ []) all) ∙ world_more ids h e in
    let at : IsAt (h ++ e ∷ []) c.place e = (omega (arith, place), rw back (slice_get_last h e)) in
    record {
      stands = record {
        kid = kid;
        at = at;
        key = subst (λ (w : World). held_key w.machine c.session kid ≡ Some c.key) (sym then_) key;
        sample = subst (λ (w : World). fed_sample w c.track c.index ≡ Some c.sample) (sym then_) sample;
        formed = fed_formed ids h c.track c.index c.sample legal sample;
      };
      waits = record {
        worker = c.worker;
        track = c.track;
        index = c.index;
        session = c.session;
        kid = kid;
        at = at;
        none = λ n x there. elim (either_place h e n x there) [
          | inl p ↦ (λ spends. none_names_next ids h n x legal p.0 (inr (subst (λ (q : ℕ). Spends x q) place spends)))
          | inr p ↦ (λ spends. subst (λ (y : Entry). Spends y c.place) p.0 spends)
        ];
      };
    }

pub claim_open : (ids : List ℕ) (h : List Entry) (did : List (List Effect)) (m : Machine) (ts : List FedTrack) (claims : List ClaimState) (w : Work) (c : Copied) (d : FedTrack) (held : Held) → LegalKept ids h did (world_of m ts) claims → IsTrue (are_distinct ids) → IsWork (pick m) claims ts w → IsCopied (get_or ts w.at d) w.index c → held.place ≡ length h + 1 → held.track ≡ (get_or ts w.at d).id → held.index ≡ w.index → held.session ≡ w.session → held.key ≡ w.key → held.sample ≡ c.sample → IsOpen (record { tracks = ids; history = h ++ Claim held.worker held.track held.index held.session c.kid ∷ [] }) held
claim_open ids h did m ts claims w c d held kept distinct work copied place track index session key sample =
    let holds : held_key (world ids h).machine w.session c.kid ≡ Some w.key = subst (λ (v : World). held_key v.machine w.session c.kid ≡ Some w.key) kept.state (pick_holds m c.kid w.session w.key (claim_picked m ts claims w c d work copied)) in
    let fed : fed_sample (world ids h) (get_or ts w.at d).id w.index ≡ Some c.sample = ap (λ (o : Option TrackState). fed_at o w.index) (known_at ids h did m ts claims w.at d kept distinct work.within) ∙ copied.sample in
    let holds2 : held_key (world ids h).machine held.session c.kid ≡ Some held.key = rw (session, key) holds in
    let fed2 : fed_sample (world ids h) held.track held.index ≡ Some held.sample = rw (track, index, sample) fed in
    open_new ids h c.kid held kept.legal place holds2 fed2

pub same_kid : (sample : EncSample) (p : Protect) (kid : List ℕ) → sample.protect ≡ Some p → HasKid sample kid → p.kid ≡ kid
same_kid sample p kid is has = (let same : p ≡ has.protect = alone p has.protect (sym is ∙ has.protected) in ap (λ (q : Protect). q.kid) same ∙ sym has.same) where
  alone : (a b : Protect) → Some a ≡ Some b → a ≡ b
  alone a b e = cc

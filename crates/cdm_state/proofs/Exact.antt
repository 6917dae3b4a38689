-- What the calls answer, read off what the core keeps.
use Rattle.std.proofs.Common.{Err, suc, ◌≡◌, ℕ, ◌+◌, ◌≤◌, ◌<◌, Bool, true, false, ◌&&◌, IsTrue, List, [], ◌∷◌, length, get_or, Option, Some, None, refl, ap, sym, subst, ◌∙◌, arith, true≢false, ◌↔◌}
use Rattle.std.specs.Prelude.{IsErrOf, if◌then◌else◌, slice_get}
use Rattle.eme_types.specs.declared.kid.KeyBytes.{KeyBytes}
use Rattle.eme_types.specs.declared.sample.EncSample.{EncSample}
use Rattle.eme_types.specs.declared.sample.Protect.{Protect}
use Rattle.eme_types.specs.declared.call.Effect.{Effect}
use Rattle.eme_types.specs.declared.entry.Entry.{Entry}
use Rattle.key_claims.specs.TracksState.{FedTrack, ClaimState, track_of}
use Rattle.key_sessions.specs.Machine.{Machine}
use Rattle.key_sessions.specs.Keys.{pick}
use Rattle.key_sessions.specs.Calls.{next_promise}
use Rattle.cdm_world.specs.Tracks.{Picks, TrackState, head, find_track, is_waiting}
use Rattle.key_claims.specs.Choice.{protect_of, protect_at, claim_pick, free_pick, NoWorkOn, NoWork, NoneIs, has_clear_head, is_clear, is_unkeyed, is_free_of}
use Rattle.key_sessions.specs.World.{World, empty_world}
use Rattle.cdm_state.specs.After.{after_entry}
use Rattle.key_claims.specs.Claims.{claimed_in}
use Rattle.cdm_state.specs.Settlements.{effects_from, effects_in, calls_in}
use Rattle.cdm_state.specs.Claims.{LegalKept}
use Rattle.cdm_state.specs.Kept.{world_of}
use Rattle.cdm_state.specs.History.{world, MayClaim, MayPassClear, MayWait}
use Rattle.key_claims.specs.Changes.{find_fed, head_of, waits}
use Rattle.cdm_state.specs.Later.{sample_later, track_later, waits_later}
use Rattle.cdm_state.proofs.TrackLists.{no_track, seen, found_state}
use Rattle.cdm_state.proofs.TrackIds.{FoundAt, found_at}
use Rattle.cdm_state.proofs.May.{not_claimed}
use Rattle.cdm_state.proofs.Settling.{promises_made}

effects_from_length : (w : World) (h : List Entry) → length (effects_from w h) ≡ length h
effects_from_length w [] = refl
effects_from_length w (e ∷ h) = ap suc (effects_from_length (after_entry w e) h)

pub effects_length : (ids : List ℕ) (h : List Entry) → length (effects_in ids h) ≡ length h
unfolding effects_in
effects_length ids h = effects_from_length (empty_world ids) h

-- the number of the next promise
pub call_number : (ids : List ℕ) (h : List Entry) (did : List (List Effect)) (m : Machine) (ts : List FedTrack) (claims : List ClaimState) → LegalKept ids h did (world_of m ts) claims → next_promise m ≡ calls_in h + 1
call_number ids h did m ts claims kept =
    ap (λ (w : World). next_promise w.machine) kept.state ∙ ap (λ n. n + 1) (promises_made ids h kept.legal)

waits_seen : (o : Option FedTrack) → IsTrue (waits o) ↔ is_waiting (seen o)
waits_seen None = ((λ e. true≢false (sym e)), (λ x. absurd x))
waits_seen (Some t) = ((λ e. e), (λ e. e))

pub waits_is : (ids : List ℕ) (h : List Entry) (did : List (List Effect)) (m : Machine) (ts : List FedTrack) (claims : List ClaimState) (id : ℕ) → LegalKept ids h did (world_of m ts) claims → IsTrue (waits (find_fed ts id)) ↔ is_waiting (find_track (world ids h).tracks id)
waits_is ids h did m ts claims id kept =
    let same : find_track (world ids h).tracks id ≡ seen (find_fed ts id) = sym (ap (λ (w : World). find_track w.tracks id) kept.state) ∙ found_state ts id in
    rw same (waits_seen (find_fed ts id))

later_seen : (m : Machine) (o : Option FedTrack) → track_later m (seen o) ≡ (waits o && sample_later m (head_of o))
later_seen m None = refl
later_seen m (Some t) = refl

-- whether a track waits for a key that is usable later
pub later_is : (ids : List ℕ) (h : List Entry) (did : List (List Effect)) (m : Machine) (ts : List FedTrack) (claims : List ClaimState) (id : ℕ) → LegalKept ids h did (world_of m ts) claims → waits_later (world ids h) id ≡ (waits (find_fed ts id) && sample_later m (head_of (find_fed ts id)))
later_is ids h did m ts claims id kept =
    ap (λ (w : World). waits_later w id) (sym kept.state) ∙ (ap (λ (o : Option TrackState). track_later m o) (found_state ts id) ∙ later_seen m (find_fed ts id))

-- the track that an allowed entry names is in the list
pub found_in : (ids : List ℕ) (h : List Entry) (did : List (List Effect)) (m : Machine) (ts : List FedTrack) (claims : List ClaimState) (id : ℕ) (s : TrackState) → LegalKept ids h did (world_of m ts) claims → find_track (world ids h).tracks id ≡ Some s → FoundAt ts id s
found_in ids h did m ts claims id s kept known_ = found_at ts id s (subst (λ (w : World). find_track w.tracks id ≡ Some s) (sym kept.state) known_)

clear_yes : (o : Option EncSample) (s : EncSample) → o ≡ Some s → s.protect ≡ None → is_clear o ≡ true
clear_yes o s is none = rw (is, none) refl

-- a track whose head may pass has a clear head
pub pass_on : (ids : List ℕ) (h : List Entry) (t : FedTrack) (track index : ℕ) (may : MayPassClear ids h track index) → track_of t ≡ may.state → has_clear_head t ≡ true
pass_on ids h t track index may is = clear_yes (head (track_of t)) may.sample (ap head is ∙ may.fed) may.clear

-- where no head is clear, no clear sample may pass
pub no_pass : (ids : List ℕ) (h : List Entry) (did : List (List Effect)) (m : Machine) (ts : List FedTrack) (claims : List ClaimState) → LegalKept ids h did (world_of m ts) claims → NoneIs has_clear_head ts → (track index : ℕ) → MayPassClear ids h track index → ⊥
no_pass ids h did m ts claims kept none track index may =
    let f = found_in ids h did m ts claims track may.state kept may.known in
    true≢false (sym (pass_on ids h (get_or ts f.place no_track) track index may (f.is no_track)) ∙ none f.place no_track f.within)

protect_is : (t : FedTrack) (index : ℕ) (s : EncSample) (p : Protect) → slice_get t.fed index ≡ Some s → s.protect ≡ Some p → protect_at t.fed index ≡ Some p
protect_is t index s p fed is = ap protect_of fed ∙ is

unkeyed_yes : (picks : Picks) (waiting claimed : Bool) (o : Option Protect) (p : Protect) → waiting ≡ false → claimed ≡ false → o ≡ Some p → picks p.kid ≡ None → (if waiting then false else is_free_of picks claimed o) ≡ true
unkeyed_yes picks waiting claimed o p awake free is none = rw (awake, free, is, none) refl

-- a track that may begin to wait lacks its key
pub wait_on : (ids : List ℕ) (h : List Entry) (did : List (List Effect)) (m : Machine) (ts : List FedTrack) (claims : List ClaimState) (t : FedTrack) (track : ℕ) → LegalKept ids h did (world_of m ts) claims → (may : MayWait ids h track) → track_of t ≡ may.state → t.id ≡ track → is_unkeyed (pick m) claims t ≡ true
wait_on ids h did m ts claims t track kept may is id =
    let awake : t.waiting ≡ false = ap (λ (s : TrackState). s.waiting) is ∙ may.awake in
    let out : length t.outputs ≡ may.state.published = ap (λ (s : TrackState). s.published) is in
    let free : claimed_in claims t.id (length t.outputs) ≡ false = rw (id, out) (not_claimed ids h claims track may.state.published kept.claims may.free) in
    let fed : slice_get t.fed (length t.outputs) ≡ Some may.sample = ap head is ∙ may.fed in
    let unpicked : pick m may.protect.kid ≡ None = subst (λ (w : World). pick w.machine may.protect.kid ≡ None) (sym kept.state) may.unpicked in
    unkeyed_yes (pick m) t.waiting (claimed_in claims t.id (length t.outputs)) (protect_at t.fed (length t.outputs)) may.protect awake free (protect_is t (length t.outputs) may.sample may.protect fed may.protected) unpicked

-- where no head lacks its key, no track may begin to wait
pub no_wait : (ids : List ℕ) (h : List Entry) (did : List (List Effect)) (m : Machine) (ts : List FedTrack) (claims : List ClaimState) → LegalKept ids h did (world_of m ts) claims → NoneIs (is_unkeyed (pick m) claims) ts → (track : ℕ) → MayWait ids h track → ⊥
no_wait ids h did m ts claims kept none track may =
    let f = found_in ids h did m ts claims track may.state kept may.known in
    let is = f.is no_track in
    true≢false (sym (wait_on ids h did m ts claims (get_or ts f.place no_track) track kept may is (ap (λ (s : TrackState). s.id) is ∙ f.same)) ∙ none f.place no_track f.within)

picked_yes : (picks : Picks) (claimed : Bool) (o : Option Protect) (p : Protect) (r : ℕ × KeyBytes) → claimed ≡ false → o ≡ Some p → picks p.kid ≡ Some r → free_pick picks claimed o ≡ Some r
picked_yes picks claimed o p r free is some = rw (free, is) some

pub none_some : (o : Option (ℕ × KeyBytes)) (r : ℕ × KeyBytes) → o ≡ None → o ≡ Some r → ⊥
none_some o r none some = (let z : None ≡ Some r = sym none ∙ some in absurd cc)

-- a sample that may be claimed is in the window of its track, and has a pick
pub record CanClaim (picks : Picks) (claims : List ClaimState) (t : FedTrack) (index session : ℕ) (key : KeyBytes) : Type 0 where
  pub awake : t.waiting ≡ false
  pub from : length t.outputs ≤ index
  pub window : index < length t.outputs + 16
  pub picked : claim_pick picks claims t index ≡ Some (session, key)

pub claim_on : (ids : List ℕ) (h : List Entry) (did : List (List Effect)) (m : Machine) (ts : List FedTrack) (claims : List ClaimState) (t : FedTrack) (track index session : ℕ) (kid : List ℕ) → LegalKept ids h did (world_of m ts) claims → (may : MayClaim ids h track index session kid) → track_of t ≡ may.state → t.id ≡ track → CanClaim (pick m) claims t index session may.key
claim_on ids h did m ts claims t track index session kid kept may is id =
    let awake : t.waiting ≡ false = ap (λ (s : TrackState). s.waiting) is ∙ may.awake in
    let out : length t.outputs ≡ may.state.published = ap (λ (s : TrackState). s.published) is in
    let free : claimed_in claims t.id index ≡ false = rw id (not_claimed ids h claims track index kept.claims may.free) in
    let fed : slice_get t.fed index ≡ Some may.sample = ap (λ (s : TrackState). slice_get s.fed index) is ∙ may.fed in
    let picked : pick m may.protect.kid ≡ Some (session, may.key) = subst (λ (w : World). pick w.machine may.protect.kid ≡ Some (session, may.key)) (sym kept.state) (ap (λ (k : List ℕ). pick (world ids h).machine k) may.same_id ∙ may.picked) in
    record {
      awake = awake;
      from = omega (arith, out, may.from);
      window = omega (arith, out, may.window);
      picked = picked_yes (pick m) (claimed_in claims t.id index) (protect_at t.fed index) may.protect (session, may.key) free (protect_is t index may.sample may.protect fed may.protected) picked;
    }

pub no_work_on : (picks : Picks) (claims : List ClaimState) (t : FedTrack) (index session : ℕ) (key : KeyBytes) → CanClaim picks claims t index session key → NoWorkOn picks claims t → ⊥
no_work_on picks claims t index session key can none = none_some (claim_pick picks claims t index) (session, key) (none can.awake index can.from can.window) can.picked

-- where no track has work, no claim is allowed
pub no_claim : (ids : List ℕ) (h : List Entry) (did : List (List Effect)) (m : Machine) (ts : List FedTrack) (claims : List ClaimState) → LegalKept ids h did (world_of m ts) claims → NoWork (pick m) claims ts → (track index session : ℕ) (kid : List ℕ) → MayClaim ids h track index session kid → ⊥
no_claim ids h did m ts claims kept none track index session kid may =
    let f = found_in ids h did m ts claims track may.state kept may.known in
    let t = get_or ts f.place no_track in
    let is = f.is no_track in
    let can = claim_on ids h did m ts claims t track index session kid kept may is (ap (λ (s : TrackState). s.id) is ∙ f.same) in
    no_work_on (pick m) claims t index session may.key can (none f.place no_track f.within)

-- the same fault of two results
pub err_again : {A B E : Type 0} (x y : E) → IsErrOf {T = A} (Err x) y → IsErrOf {T = B} (Err x) y
err_again x y e = (let same : x ≡ y = cc in rw same refl)

-- The track that a call takes comes first of all that it may take.
use Rattle.std.proofs.Common.{zero, suc, ◌≡◌, ℕ, ◌≤◌, ◌<◌, IsTrue, List, [], ◌∷◌, length, get_or, Some, inl, inr, refl, ap, sym, subst, ◌∙◌, arith, map, true≢false}
use Rattle.std.specs.Prelude.{slice_get}
use Rattle.std.proofs.lemmas.List.{length-map}
use Rattle.std.proofs.lemmas.Option.{slice_get_within}
use Rattle.std.proofs.lemmas.Bool.Decides.{leb_tells}
use Rattle.eme_types.specs.Fed.{are_distinct}
use Rattle.eme_types.specs.declared.call.Effect.{Effect}
use Rattle.eme_types.specs.declared.entry.Entry.{Entry}
use Rattle.key_claims.specs.TracksState.{FedTrack, ClaimState, track_of}
use Rattle.key_claims.specs.declared.choice.Work.{Work}
use Rattle.key_sessions.specs.Machine.{Machine}
use Rattle.key_sessions.specs.Keys.{pick}
use Rattle.cdm_world.specs.Tracks.{TrackState, find_track}
use Rattle.key_sessions.specs.World.{World}
use Rattle.cdm_state.specs.Claims.{LegalKept}
use Rattle.cdm_state.specs.Kept.{world_of}
use Rattle.key_claims.specs.Choice.{ready_on, claim_pick, IsWork, IsFirst, IsReady, has_clear_head, is_unkeyed}
use Rattle.cdm_state.specs.Contract.{ComesFirst}
use Rattle.cdm_state.specs.History.{world, MayClaim, MayPublish, MayPassClear, MayWait}
use Rattle.cdm_state.proofs.TrackIds.{id_of, state_id, world_ids, states_ids}
use Rattle.cdm_state.proofs.May.{known_at}
use Rattle.cdm_state.proofs.Exact.{pass_on, wait_on, claim_on, no_work_on, none_some}
use Rattle.cdm_state.proofs.FedOn.{publish_on, some_none}
use Rattle.cdm_state.proofs.Plain.{some_alone}

-- the ids of a core stand as its tracks do
kept_ids : (ids : List ℕ) (h : List Entry) (did : List (List Effect)) (m : Machine) (ts : List FedTrack) (claims : List ClaimState) → LegalKept ids h did (world_of m ts) claims → map id_of ts ≡ ids
kept_ids ids h did m ts claims kept = sym (states_ids ts) ∙ (ap (λ (w : World). map state_id w.tracks) kept.state ∙ world_ids ids h)

id_at : (ts : List FedTrack) (i : ℕ) (d : FedTrack) → i < length ts → slice_get (map id_of ts) i ≡ Some (get_or ts i d).id
id_at [] i d lt = absurd (omega arith)
id_at (t ∷ ts) zero d lt = refl
id_at (t ∷ ts) (suc i) d lt = id_at ts i d (omega arith)

-- a track that stands before each other that could be taken comes first
comes_first : (ids : List ℕ) (h : List Entry) (did : List (List Effect)) (m : Machine) (ts : List FedTrack) (claims : List ClaimState) (at track other : ℕ) (d : FedTrack) → LegalKept ids h did (world_of m ts) claims → at < length ts → track ≡ (get_or ts at d).id → ((i : ℕ) → i < at → (get_or ts i d).id ≡ other → ⊥) → ComesFirst ids track other
comes_first ids h did m ts claims at track other d kept lt is before =
    let same = kept_ids ids h did m ts claims kept in
    λ i there. (let there_ : slice_get (map id_of ts) i ≡ Some other = subst (λ (xs : List ℕ). slice_get xs i ≡ Some other) (sym same) there in
    let within : i < length ts = omega (arith, slice_get_within (map id_of ts) i other there_, length-map ts id_of) in
    elim (leb_tells at i) [
      | inl p ↦ (at, p.1, subst (λ (xs : List ℕ). slice_get xs at ≡ Some track) same (id_at ts at d lt ∙ ap (λ (n : ℕ). Some n) (sym is)))
      | inr p ↦ absurd (before i p.1 (some_alone _ _ (sym (id_at ts i d within) ∙ there_)))
    ])

-- the state that an id finds is that of the track with the id
same_state : (ids : List ℕ) (h : List Entry) (did : List (List Effect)) (m : Machine) (ts : List FedTrack) (claims : List ClaimState) (i track : ℕ) (d : FedTrack) (s : TrackState) → LegalKept ids h did (world_of m ts) claims → IsTrue (are_distinct ids) → i < length ts → (get_or ts i d).id ≡ track → find_track (world ids h).tracks track ≡ Some s → track_of (get_or ts i d) ≡ s
same_state ids h did m ts claims i track d s kept distinct lt same known_ =
    let here : find_track (world ids h).tracks track ≡ Some (track_of (get_or ts i d)) = subst (λ (n : ℕ). find_track (world ids h).tracks n ≡ Some (track_of (get_or ts i d))) same (known_at ids h did m ts claims i d kept distinct lt) in
    some_alone _ _ (sym here ∙ known_)

-- a clear sample
pub first_pass : (ids : List ℕ) (h : List Entry) (did : List (List Effect)) (m : Machine) (ts : List FedTrack) (claims : List ClaimState) (at track : ℕ) (d : FedTrack) → LegalKept ids h did (world_of m ts) claims → IsTrue (are_distinct ids) → IsFirst has_clear_head ts at → track ≡ (get_or ts at d).id → (other index : ℕ) → MayPassClear ids h other index → ComesFirst ids track other
first_pass ids h did m ts claims at track d kept distinct first is other index may =
    comes_first ids h did m ts claims at track other d kept first.within is (λ i lt same. (
    let within : i < length ts = omega (arith, lt, first.within) in
    let state = same_state ids h did m ts claims i other d may.state kept distinct within same may.known in
    true≢false (sym (pass_on ids h (get_or ts i d) other index may state) ∙ first.first i d lt)
    ))

-- a track that begins to wait
pub first_wait : (ids : List ℕ) (h : List Entry) (did : List (List Effect)) (m : Machine) (ts : List FedTrack) (claims : List ClaimState) (at track : ℕ) (d : FedTrack) → LegalKept ids h did (world_of m ts) claims → IsTrue (are_distinct ids) → IsFirst (is_unkeyed (pick m) claims) ts at → track ≡ (get_or ts at d).id → (other : ℕ) → MayWait ids h other → ComesFirst ids track other
first_wait ids h did m ts claims at track d kept distinct first is other may =
    comes_first ids h did m ts claims at track other d kept first.within is (λ i lt same. (
    let within : i < length ts = omega (arith, lt, first.within) in
    let state = same_state ids h did m ts claims i other d may.state kept distinct within same may.known in
    true≢false (sym (wait_on ids h did m ts claims (get_or ts i d) other kept may state same) ∙ first.first i d lt)
    ))

-- a publication
pub first_publish : (ids : List ℕ) (h : List Entry) (did : List (List Effect)) (m : Machine) (ts : List FedTrack) (claims : List ClaimState) (at p track : ℕ) (d : FedTrack) → LegalKept ids h did (world_of m ts) claims → IsTrue (are_distinct ids) → IsReady claims ts at p → track ≡ (get_or ts at d).id → (other index place : ℕ) → MayPublish ids h other index place → ComesFirst ids track other
first_publish ids h did m ts claims at p track d kept distinct ready is other index place may =
    comes_first ids h did m ts claims at track other d kept ready.within is (λ i lt same. (
    let within : i < length ts = omega (arith, lt, ready.within) in
    let state = same_state ids h did m ts claims i other d may.state kept distinct within same may.known in
    let on = publish_on ids h did m ts claims (get_or ts i d) other index place kept may state same in
    some_none (ready_on claims (get_or ts i d)) on.0 on.1 (ready.first i d lt)
    ))

-- a claim
pub first_claim : (ids : List ℕ) (h : List Entry) (did : List (List Effect)) (m : Machine) (ts : List FedTrack) (claims : List ClaimState) (w : Work) (track index : ℕ) (d : FedTrack) → LegalKept ids h did (world_of m ts) claims → IsTrue (are_distinct ids) → IsWork (pick m) claims ts w → track ≡ (get_or ts w.at d).id → index ≡ w.index → (other i session : ℕ) (kid : List ℕ) → MayClaim ids h other i session kid → ComesFirst ids track other × (other ≡ track → index ≤ i)
first_claim ids h did m ts claims w track index d kept distinct work is at other i session kid may = (
  comes_first ids h did m ts claims w.at track other d kept work.within is (λ n lt same. (
      let within : n < length ts = omega (arith, lt, work.within) in
      let state = same_state ids h did m ts claims n other d may.state kept distinct within same may.known in
      no_work_on (pick m) claims (get_or ts n d) i session may.key (claim_on ids h did m ts claims (get_or ts n d) other i session kid kept may state same) (work.first n d lt)
      )),
  λ same. (
      let here : (get_or ts w.at d).id ≡ other = sym (same ∙ is) in
      let state = same_state ids h did m ts claims w.at other d may.state kept distinct work.within here may.known in
      let can = claim_on ids h did m ts claims (get_or ts w.at d) other i session kid kept may state here in
      elim (leb_tells w.index i) [
        | inl p ↦ (let le : w.index ≤ i = p.1 in omega (arith, at, le))
        | inr p ↦ absurd (none_some (claim_pick (pick m) claims (get_or ts w.at d) i) (session, may.key) ((work.on d).least i can.from p.1) can.picked)
      ]
      ),
)

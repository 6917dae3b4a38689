-- The claim in hand is the one that is kept at its place.
use Rattle.std.proofs.Common.{◌≡◌, ℕ, ◌-◌, List, Option, Some, None, refl, ap, sym, subst, ◌∙◌, arith, take, map}
use Rattle.std.specs.Prelude.{slice_get}
use Rattle.std.proofs.lemmas.Option.{slice_get-get_or}
use Rattle.eme_types.specs.declared.call.Effect.{Effect}
use Rattle.eme_types.specs.declared.entry.Entry.{Entry}
use Rattle.eme_types.specs.declared.entry.Entry.TheVariants.{Claim, Deliver}
use Rattle.eme_types.specs.declared.entry.Verdict.TheVariants.{Taken}
use Rattle.cdm_world.specs.Tracks.{TrackState, find_track}
use Rattle.key_sessions.specs.Machine.{Machine}
use Rattle.key_sessions.specs.World.{World}
use Rattle.key_sessions.specs.Keys.{held_key}
use Rattle.key_claims.specs.declared.claim.Claim.{Claim as Held}
use Rattle.key_claims.specs.TracksState.{FedTrack, ClaimState, track_of}
use Rattle.key_claims.specs.Changes.{find_fed}
use Rattle.key_claims.specs.Fits.{MayDeliver, fed_at as kept_at}
use Rattle.cdm_state.specs.Slots.{entry_of}
use Rattle.cdm_state.specs.Contract.{IsOpen}
use Rattle.cdm_state.specs.Claims.{LegalKept, ClearKept}
use Rattle.cdm_state.specs.Kept.{world_of}
use Rattle.cdm_state.specs.Output.{fed_at, fed_sample}
use Rattle.cdm_state.specs.History.{world, Undelivered}
use Rattle.cdm_state.proofs.FedOn.{fed_since}
use Rattle.cdm_state.proofs.Live.{at_within}
use Rattle.cdm_state.proofs.TrackLists.{seen, found_state}
use Rattle.cdm_state.proofs.Plain.{some_alone}
use Rattle.cdm_state.proofs.EntryOf.{track_same, index_same, session_same, kid_same}

-- what waits for its delivery has no clear bytes
unopened : (h : List Entry) (place : ℕ) (o : Option (List ℕ)) → ClearKept h place o → Undelivered h place → o ≡ None
unopened h place None kept u = refl
unopened h place (Some bytes) kept u = absurd (u.none kept.0 (Deliver place Taken) (slice_get-get_or h kept.0 (Deliver place Taken) kept.1 ∙ ap (λ (e : Entry). Some e) kept.2) refl)

seen_at : (o : Option FedTrack) (i : ℕ) → fed_at (seen o) i ≡ kept_at o i
seen_at None i = refl
seen_at (Some t) i = refl

pub in_hand : (ids : List ℕ) (h : List Entry) (did : List (List Effect)) (m : Machine) (ts : List FedTrack) (claims : List ClaimState) (held : Held) → LegalKept ids h did (world_of m ts) claims → IsOpen (record { tracks = ids; history = h }) held → MayDeliver (record { tracks = ts; claims = claims }) held
in_hand ids h did m ts claims held kept open_ = λ c there place.
    let st = open_.stands in
    let live = kept.claims.live c there in
    let entry : entry_of c ≡ Claim held.worker held.track held.index held.session st.kid = some_alone _ _ (sym (subst (λ (n : ℕ). slice_get h (n - 1) ≡ Some (entry_of c)) place live.at.1) ∙ st.at.1) in
    let n : c.session ≡ held.session = session_same c held st.kid entry in
    let k : c.kid ≡ st.kid = kid_same c held st.kid entry in
    let at : held_key (world ids (take held.place h)).machine c.session c.kid ≡ Some c.key = subst (λ (q : ℕ). held_key (world ids (take q h)).machine c.session c.kid ≡ Some c.key) place (live.held c.place (omega arith) (at_within h c.place (entry_of c) live.at)) in
    let now : held_key (world ids (take held.place h)).machine held.session st.kid ≡ Some c.key = subst (λ (q : ℕ). held_key (world ids (take held.place h)).machine q st.kid ≡ Some c.key) n (subst (λ (q : List ℕ). held_key (world ids (take held.place h)).machine c.session q ≡ Some c.key) k at) in
    let fed : fed_sample (world ids h) held.track held.index ≡ Some held.sample = fed_since ids h held.place held.track held.index held.sample st.sample in
    let shown : fed_at (find_track (map track_of ts) held.track) held.index ≡ Some held.sample = subst (λ (w : World). fed_sample w held.track held.index ≡ Some held.sample) (sym kept.state) fed in
    record {
      track = track_same c held st.kid entry;
      index = index_same c held st.kid entry;
      key = some_alone _ _ (sym now ∙ st.key);
      waits = unopened h c.place c.clear (kept.claims.clear c there) (subst (λ (q : ℕ). Undelivered h q) (sym place) open_.waits);
      sample = sym (seen_at (find_fed ts held.track) held.index) ∙ (ap (λ (o : Option TrackState). fed_at o held.index) (sym (found_state ts held.track)) ∙ shown);
    }

-- What the history put out is what the tracks show, as the history goes on.
use Rattle.std.proofs.Common.{zero, suc, ◌≡◌, ℕ, ◌-◌, ◌<◌, ◌≤◌, Bool, true, false, IsTrue, List, [], ◌∷◌, ◌++◌, length, get_or, Option, Some, None, inl, inr, refl, ap, sym, subst, ◌∙◌, arith, map, take, eqb, not, append_assoc, append-nil, true≢false}
use Rattle.std.specs.Prelude.{slice_get, filter, if◌then◌else◌, ◌==◌}
use Rattle.std.proofs.lemmas.List.{get_or-map, length-map}
use Rattle.std.proofs.lemmas.Bool.Decides.{eqb_tells}
use Rattle.eme_types.specs.Fed.{are_distinct, is_among}
use Rattle.eme_types.specs.declared.kid.KeyBytes.{KeyBytes}
use Rattle.eme_types.specs.declared.sample.EncSample.{EncSample}
use Rattle.eme_types.specs.declared.call.Effect.{Effect}
use Rattle.eme_types.specs.declared.entry.Entry.{Entry}
use Rattle.eme_types.specs.declared.entry.Entry.TheVariants.{Call, Job, Task, Tick, Feed, Evict, Claim, Deliver, GiveUp, Publish, PassClear, WaitForKey, Settle}
use Rattle.eme_types.specs.declared.entry.Verdict.TheVariants.{Taken}
use Rattle.sample_crypt.specs.Decryption.{decryption}
use Rattle.key_claims.specs.declared.claim.Claim.{Claim as Held}
use Rattle.key_claims.specs.TracksState.{FedTrack, ClaimState, track_of}
use Rattle.key_sessions.specs.Machine.{Machine}
use Rattle.key_sessions.specs.Keys.{held_key}
use Rattle.cdm_world.specs.Tracks.{TrackState, empty_track, head, find_track}
use Rattle.key_sessions.specs.World.{World}
use Rattle.cdm_state.specs.Slots.{entry_of}
use Rattle.key_claims.specs.Claims.{is_other, clear_at, give_clear}
use Rattle.cdm_world.specs.In.{In}
use Rattle.cdm_state.specs.Contract.{Stands}
use Rattle.cdm_state.specs.Claims.{LegalKept}
use Rattle.cdm_state.specs.Kept.{world_of}
use Rattle.key_claims.specs.Choice.{IsFirst, IsReady, has_clear_head}
use Rattle.cdm_state.specs.Output.{fed_at, fed_sample, key_for, claim_key, opened, data_of, output_of, out_from, out}
use Rattle.cdm_state.specs.OfSamples.{OutGoesOn}
use Rattle.cdm_state.specs.Shown.{SameShown, SameOut, OneOut, OutKept}
use Rattle.cdm_state.specs.History.{world, IsLegal, Allowed}
use Rattle.key_claims.specs.Changes.{changed_at, more_out, find_fed, outputs_of}
use Rattle.key_claims.proofs.Readiness.{clear_of}
use Rattle.cdm_state.proofs.ShownOn.{one_out}
use Rattle.cdm_state.proofs.Histories.{world_more, legal_induction}
use Rattle.cdm_state.proofs.Live.{at_within}
use Rattle.cdm_state.proofs.Claiming.{given_from}
use Rattle.cdm_state.proofs.TrackLists.{no_track, track_none, same_yes, seen, found_state}
use Rattle.cdm_state.proofs.TrackLists.{same_yes}
use Rattle.cdm_state.proofs.TrackIds.{id_of, state_id, states_ids, world_ids, among_at, and_both, not_true}
use Rattle.cdm_state.proofs.May.{known_at, may_publish, any_default}
use Rattle.cdm_state.proofs.FedOn.{fed_stays, fed_since, claimed_fed}
use Rattle.cdm_state.proofs.Plain.{same_number, some_alone}
use Rattle.cdm_world.proofs.Members.{In_filter, In_more}
use Rattle.cdm_state.proofs.EntryOf.{track_same, index_same, session_same, kid_same}

out_from_append : (ids : List ℕ) (g : List Entry) (t : ℕ) (hs es : List Entry) → out_from ids g t (hs ++ es) ≡ out_from ids g t hs ++ out_from ids (g ++ hs) t es
out_from_append ids g t [] es = ap (λ (x : List Entry). out_from ids x t es) (sym (append-nil g))
out_from_append ids g t (x ∷ hs) es =
    ap (λ (ys : List (List ℕ)). output_of ids g t x ++ ys) (out_from_append ids (g ++ x ∷ []) t hs es) ∙ (sym (append_assoc (output_of ids g t x) (out_from ids (g ++ x ∷ []) t hs) (out_from ids ((g ++ x ∷ []) ++ hs) t es)) ∙ ap (λ (z : List Entry). (output_of ids g t x ++ out_from ids (g ++ x ∷ []) t hs) ++ out_from ids z t es) (append_assoc g (x ∷ []) hs))

-- what is out goes on
pub out_goes_on : OutGoesOn
unfolding out
out_goes_on ids h es t = out_from_append ids [] t h es

-- what is out after one more entry
pub out_more : (ids : List ℕ) (h : List Entry) (e : Entry) (t : ℕ) → out ids (h ++ e ∷ []) t ≡ out ids h t ++ output_of ids h t e
out_more ids h e t = out_goes_on ids h (e ∷ []) t ∙ ap (λ (xs : List (List ℕ)). out ids h t ++ xs) (append-nil (output_of ids h t e))

-- the sample of a kept claim is the one that it was
same_sample : (ids : List ℕ) (h g : List Entry) (e : Entry) (did : List (List Effect)) (w : World) (claims : List ClaimState) (s : ClaimState) (x : EncSample) → LegalKept ids h did w claims → g ≡ h ++ e ∷ [] → In claims s → fed_sample (world ids g) s.track s.index ≡ Some x → fed_sample (world ids h) s.track s.index ≡ Some x
same_sample ids h g e did w claims s x kept is there at =
    let y = claimed_fed ids h s.place s.worker s.track s.index s.session s.kid kept.legal (kept.claims.live s there).at in
    let on : fed_sample (world ids g) s.track s.index ≡ Some y.0 = ap (λ (l : List Entry). fed_sample (world ids l) s.track s.index) is ∙ (ap (λ (v : World). fed_sample v s.track s.index) (world_more ids h e) ∙ fed_stays (world ids h) e s.track s.index y.0 y.1) in
    let same : y.0 ≡ x = some_alone _ _ (sym on ∙ at) in
    y.1 ∙ ap (λ (z : EncSample). Some z) same

-- after an entry that puts nothing out
pub out_plain : (ids : List ℕ) (h g : List Entry) (e : Entry) (did : List (List Effect)) (w : World) (ts us : List FedTrack) (claims new : List ClaimState) → LegalKept ids h did w claims → OutKept ids h ts claims → g ≡ h ++ e ∷ [] → ((t : ℕ) → output_of ids h t e ≡ []) → SameOut ts us → ((s : ClaimState) (b : List ℕ) → In new s → s.clear ≡ Some b → In claims s) → OutKept ids g us new
out_plain ids h g e did w ts us claims new kept was is none same fewer = record {
  shows = λ k d lt.
      (let le : k < length ts = omega (arith, lt, same.length_) in
      let x = same.each k d le in
      let t = get_or ts k d in
      let u = get_or us k d in
      let quiet : out ids g u.id ≡ out ids h u.id = ap (λ (l : List Entry). out ids l u.id) is ∙ (out_more ids h e u.id ∙ (ap (λ (ys : List (List ℕ)). out ids h u.id ++ ys) (none u.id) ∙ append-nil (out ids h u.id))) in
      x.shows ∙ (was.shows k d le ∙ (ap (λ (n : ℕ). out ids h n) (sym x.id) ∙ sym quiet)));
  opened = λ s b x there clear at. (let old = fewer s b there clear in was.opened s b x old clear (same_sample ids h g e did w claims s x kept is old at));
}

pub fewer_filter : (p : ClaimState → Bool) (claims new : List ClaimState) → new ≡ filter p claims → (s : ClaimState) (b : List ℕ) → In new s → s.clear ≡ Some b → In claims s
fewer_filter p claims new is s b there clear = (In_filter p claims s (subst (λ (l : List ClaimState). In l s) is there)).0

pub fewer_same : (claims : List ClaimState) (s : ClaimState) (b : List ℕ) → In claims s → s.clear ≡ Some b → In claims s
fewer_same claims s b there clear = there

pub fewer_added : (claims new : List ClaimState) (n : ClaimState) → new ≡ claims ++ n ∷ [] → n.clear ≡ None → (s : ClaimState) (b : List ℕ) → In new s → s.clear ≡ Some b → In claims s
fewer_added claims new n is none s b there clear = elim (In_more claims n s (subst (λ (l : List ClaimState). In l s) is there)) [
  | inl old ↦ old
  | inr same ↦ (let z : None ≡ Some b = sym none ∙ (ap (λ (x : ClaimState). x.clear) same ∙ clear) in absurd cc)
]

-- a new core
pub out_new : (ids : List ℕ) (h : List Entry) (ts : List FedTrack) (claims : List ClaimState) → h ≡ [] → map track_of ts ≡ map empty_track ids → claims ≡ [] → OutKept ids h ts claims
unfolding out
out_new ids h ts claims none states unclaimed = rw (none, unclaimed) (record {
  shows = λ k d lt.
      (let n : length ts ≡ length ids = sym (length-map ts track_of) ∙ (ap (λ (xs : List TrackState). length xs) states ∙ length-map ids empty_track) in
      let le : k < length ids = omega (arith, lt, n) in
      let p : length (get_or ts k d).outputs ≡ 0 = ap (λ (s : TrackState). s.published) (sym (get_or-map track_of ts k d (empty_track 0) lt) ∙ (ap (λ (xs : List TrackState). get_or xs k (empty_track 0)) states ∙ get_or-map empty_track ids k 0 (empty_track 0) le)) in
      empty_shown (get_or ts k d).outputs p);
  opened = λ s b x there clear at. absurd there;
})
  where
    empty_shown : (os : List (List ℕ)) → length os ≡ 0 → os ≡ []
    empty_shown [] e = refl
    empty_shown (o ∷ os) e = absurd (omega (arith, e))

-- after a delivery that was taken
pub out_taken : (ids : List ℕ) (h g : List Entry) (did : List (List Effect)) (w : World) (ts : List FedTrack) (claims new : List ClaimState) (c : Held) (clear : List ℕ) → LegalKept ids h did w claims → OutKept ids h ts claims → Stands (record { tracks = ids; history = h }) c → clear ≡ decryption c.sample c.key → g ≡ h ++ Deliver c.place Taken ∷ [] → new ≡ give_clear c.place clear claims → OutKept ids g ts new
out_taken ids h g did w ts claims new c clear kept was st is_clear_ is given = record {
  shows = (let p = out_plain ids h g (Deliver c.place Taken) did w ts ts claims [] kept was is (λ t. refl) (record { length_ = refl; each = λ k d lt. record { id = refl; shows = refl } }) (λ s b there z. absurd there) in p.shows);
  opened = λ s b x there z at.
      (let from = given_from c.place clear claims s kept.claims.once (subst (λ (l : List ClaimState). In l s) given there) in
      elim from.which [
        | inl same ↦ (let old : In claims s = subst (λ (y : ClaimState). In claims y) (sym same.0) from.there in was.opened s b x old z (same_sample ids h g (Deliver c.place Taken) did w claims s x kept is old at))
        | inr here ↦ (let o = from.old in
            let live = kept.claims.live o from.there in
            let entry : entry_of o ≡ Claim c.worker c.track c.index c.session st.kid = some_alone _ _ (sym (subst (λ (n : ℕ). slice_get h (n - 1) ≡ Some (entry_of o)) here.0 live.at.1) ∙ st.at.1) in
            let t : o.track ≡ c.track = track_same o c st.kid entry in
            let i : o.index ≡ c.index = index_same o c st.kid entry in
            let n : o.session ≡ c.session = session_same o c st.kid entry in
            let k : o.kid ≡ st.kid = kid_same o c st.kid entry in
            let te : s.track ≡ o.track = track_of_entry s o from.same.entry in
            let ie : s.index ≡ o.index = index_of_entry s o from.same.entry in
            let le : o.place ≤ o.place = omega arith in
            let held : held_key (world ids (take c.place h)).machine o.session o.kid ≡ Some o.key = subst (λ (q : ℕ). held_key (world ids (take q h)).machine o.session o.kid ≡ Some o.key) here.0 (live.held o.place le (at_within h o.place (entry_of o) live.at)) in
            let held2 : held_key (world ids (take c.place h)).machine c.session st.kid ≡ Some o.key = subst (λ (q : ℕ). held_key (world ids (take c.place h)).machine q st.kid ≡ Some o.key) n (subst (λ (q : List ℕ). held_key (world ids (take c.place h)).machine o.session q ≡ Some o.key) k held) in
            let key : o.key ≡ c.key = some_alone _ _ (sym held2 ∙ st.key) in
            let fed : fed_sample (world ids h) c.track c.index ≡ Some c.sample = fed_since ids h c.place c.track c.index c.sample st.sample in
            let now : fed_sample (world ids g) o.track o.index ≡ Some x = subst (λ (q : ℕ). fed_sample (world ids g) q o.index ≡ Some x) te (subst (λ (q : ℕ). fed_sample (world ids g) s.track q ≡ Some x) ie at) in
            let before = same_sample ids h g (Deliver c.place Taken) did w claims o x kept is from.there now in
            let before2 : fed_sample (world ids h) c.track c.index ≡ Some x = subst (λ (q : ℕ). fed_sample (world ids h) q c.index ≡ Some x) t (subst (λ (q : ℕ). fed_sample (world ids h) o.track q ≡ Some x) i before) in
            let sample : c.sample ≡ x = some_alone _ _ (sym fed ∙ before2) in
            let bytes : b ≡ clear = some_alone _ _ (sym z ∙ here.1) in
            bytes ∙ (is_clear_ ∙ (ap (λ (y : EncSample). decryption y c.key) sample ∙ ap (λ (q : KeyBytes). decryption x q) (sym key ∙ sym from.same.key))))
      ]);
}
  where
    track_of_entry : (s o : ClaimState) → entry_of s ≡ entry_of o → s.track ≡ o.track
    track_of_entry s o e = cc

    index_of_entry : (s o : ClaimState) → entry_of s ≡ entry_of o → s.index ≡ o.index
    index_of_entry s o e = cc

same_place : (ts : List FedTrack) (i j : ℕ) (d : FedTrack) → are_distinct (map id_of ts) ≡ true → i < length ts → j < length ts → (get_or ts i d).id ≡ (get_or ts j d).id → i ≡ j
same_place [] i j d distinct li lj same = absurd (omega arith)
same_place (t ∷ ts) zero zero d distinct li lj same = refl
same_place (t ∷ ts) zero (suc j) d distinct li lj same =
    let both = and_both (not (is_among (map id_of ts) t.id)) (are_distinct (map id_of ts)) distinct in
    absurd (not_true (is_among (map id_of ts) t.id) both.0 (among_at ts j t.id d (omega arith) (sym same)))
same_place (t ∷ ts) (suc i) zero d distinct li lj same =
    let both = and_both (not (is_among (map id_of ts) t.id)) (are_distinct (map id_of ts)) distinct in
    absurd (not_true (is_among (map id_of ts) t.id) both.0 (among_at ts i t.id d (omega arith) same))
same_place (t ∷ ts) (suc i) (suc j) d distinct li lj same =
    let both = and_both (not (is_among (map id_of ts) t.id)) (are_distinct (map id_of ts)) distinct in
    ap suc (same_place ts i j d both.1 (omega arith) (omega arith) same)

eqb_no : (a b : ℕ) → (a ≡ b → ⊥) → eqb a b ≡ false
eqb_no a b ne = elim (eqb_tells a b) [ inl p ↦ absurd (ne p.1) | inr p ↦ p.0 ]

-- after an entry that puts one sample out on a track
pub out_one : (ids : List ℕ) (h g : List Entry) (e : Entry) (did : List (List Effect)) (m : Machine) (ts us : List FedTrack) (claims new : List ClaimState) (track at : ℕ) (bytes : List ℕ) → LegalKept ids h did (world_of m ts) claims → IsTrue (are_distinct ids) → OutKept ids h ts claims → g ≡ h ++ e ∷ [] → at < length ts → OneOut ts us at bytes → track ≡ (get_or ts at no_track).id → ((t : ℕ) → output_of ids h t e ≡ (if track == t then bytes ∷ [] else [])) → ((s : ClaimState) (b : List ℕ) → In new s → s.clear ≡ Some b → In claims s) → OutKept ids g us new
out_one ids h g e did m ts us claims new track at bytes kept distinct was is within one id puts fewer = record {
  shows = λ k d lt.
      (let le : k < length ts = omega (arith, lt, one.length_) in
      let after : (n : ℕ) → out ids g n ≡ out ids h n ++ (if track == n then bytes ∷ [] else []) = λ n. ap (λ (l : List Entry). out ids l n) is ∙ (out_more ids h e n ∙ ap (λ (ys : List (List ℕ)). out ids h n ++ ys) (puts n)) in
      elim (eqb_tells k at) [
        | inl p ↦ subst (λ (q : ℕ). (get_or us q d).outputs ≡ out ids g (get_or us q d).id) (sym p.1) (here d after)
        | inr p ↦ (let y = one.others k d le p.1 in there k d le p.1 y after)
      ]);
  opened = λ s b y there_ clear fed. (let old = fewer s b there_ clear in was.opened s b y old clear (same_sample ids h g e did (world_of m ts) claims s y kept is old fed));
}
  where
    same_ids : map id_of ts ≡ ids
    same_ids = sym (states_ids ts) ∙ (ap (λ (w : World). map state_id w.tracks) kept.state ∙ world_ids ids h)

    here : (d : FedTrack) → ((n : ℕ) → out ids g n ≡ out ids h n ++ (if track == n then bytes ∷ [] else [])) → (get_or us at d).outputs ≡ out ids g (get_or us at d).id
    here d after =
        let w : get_or ts at no_track ≡ get_or ts at d = any_default ts at no_track d within in
        let n : (get_or us at d).id ≡ track = one.id d ∙ (ap (λ (t : FedTrack). t.id) (sym w) ∙ sym id) in
        let hit : eqb track track ≡ true = same_yes track track refl in
        let now : out ids g track ≡ out ids h track ++ bytes ∷ [] = after track ∙ ap (λ (b : Bool). out ids h track ++ (if b then bytes ∷ [] else [])) hit in
        let before : (get_or ts at d).outputs ≡ out ids h track = was.shows at d within ∙ ap (λ (q : ℕ). out ids h q) (ap (λ (t : FedTrack). t.id) (sym w) ∙ sym id) in
        one.more d ∙ (ap (λ (ys : List (List ℕ)). ys ++ bytes ∷ []) before ∙ (sym now ∙ ap (λ (q : ℕ). out ids g q) (sym n)))

    there : (k : ℕ) (d : FedTrack) → k < length ts → (k ≡ at → ⊥) → SameShown (get_or ts k d) (get_or us k d) → ((n : ℕ) → out ids g n ≡ out ids h n ++ (if track == n then bytes ∷ [] else [])) → (get_or us k d).outputs ≡ out ids g (get_or us k d).id
    there k d le ne y after =
        let t = get_or ts k d in
        let w : get_or ts at no_track ≡ get_or ts at d = any_default ts at no_track d within in
        let miss : eqb track t.id ≡ false = eqb_no track t.id (λ same. ne (sym (same_place ts at k d (ap are_distinct same_ids ∙ distinct) within le (ap (λ (z : FedTrack). z.id) (sym w) ∙ (sym id ∙ same))))) in
        let now : out ids g t.id ≡ out ids h t.id = after t.id ∙ (ap (λ (b : Bool). out ids h t.id ++ (if b then bytes ∷ [] else [])) miss ∙ append-nil (out ids h t.id)) in
        y.shows ∙ (was.shows k d le ∙ (sym now ∙ ap (λ (q : ℕ). out ids g q) (sym y.id)))

-- after a clear sample passed
pub out_pass : (ids : List ℕ) (h g : List Entry) (did : List (List Effect)) (m : Machine) (ts : List FedTrack) (claims : List ClaimState) (track index at : ℕ) (x : EncSample) → LegalKept ids h did (world_of m ts) claims → IsTrue (are_distinct ids) → OutKept ids h ts claims → IsFirst has_clear_head ts at → track ≡ (get_or ts at no_track).id → index ≡ length (get_or ts at no_track).outputs → head (track_of (get_or ts at no_track)) ≡ Some x → g ≡ h ++ PassClear track index ∷ [] → OutKept ids g (changed_at ts at (more_out x.bytes)) claims
out_pass ids h g did m ts claims track index at x kept distinct was first a b head_ is =
    let t = get_or ts at no_track in
    let known = known_at ids h did m ts claims at no_track kept distinct first.within in
    let fed : fed_sample (world ids h) track index ≡ Some x = rw (a, b) (ap (λ (o : Option TrackState). fed_at o (length t.outputs)) known ∙ head_) in
    out_one ids h g (PassClear track index) did m ts (changed_at ts at (more_out x.bytes)) claims claims track at x.bytes kept distinct was is first.within (one_out ts at x.bytes first.within) a (λ q. ap (λ (o : Option EncSample). if track == q then data_of o else []) fed) (fewer_same claims)

-- after a publication
pub out_publish : (ids : List ℕ) (h g : List Entry) (did : List (List Effect)) (m : Machine) (ts : List FedTrack) (claims new : List ClaimState) (track index at place : ℕ) (bytes : List ℕ) → LegalKept ids h did (world_of m ts) claims → IsTrue (are_distinct ids) → OutKept ids h ts claims → IsReady claims ts at place → track ≡ (get_or ts at no_track).id → index ≡ length (get_or ts at no_track).outputs → clear_at place claims ≡ Some bytes → g ≡ h ++ Publish track index place ∷ [] → new ≡ filter (is_other place) claims → OutKept ids g (changed_at ts at (more_out bytes)) new
out_publish ids h g did m ts claims new track index at place bytes kept distinct was ready a b given is less =
    let t = get_or ts at no_track in
    let p = may_publish ids h did m ts claims at place no_track kept distinct ready in
    let s = p.claim in
    let clear : s.clear ≡ Some bytes = sym (clear_of claims s kept.claims.once p.there) ∙ (ap (λ (n : ℕ). clear_at n claims) p.place_ ∙ given) in
    let live = kept.claims.live s p.there in
    let x = claimed_fed ids h s.place s.worker s.track s.index s.session s.kid kept.legal live.at in
    let fed : fed_sample (world ids h) track index ≡ Some x.0 = subst (λ (q : ℕ). fed_sample (world ids h) track q ≡ Some x.0) (p.index_ ∙ sym b) (subst (λ (q : ℕ). fed_sample (world ids h) q s.index ≡ Some x.0) (p.track_ ∙ sym a) x.1) in
    let le : s.place ≤ s.place = omega arith in
    let key : claim_key ids h s.place ≡ Some s.key = ap (λ (o : Option Entry). key_for (world ids (take s.place h)) o) live.at.1 ∙ live.held s.place le (at_within h s.place (entry_of s) live.at) in
    let keyed : claim_key ids h place ≡ Some s.key = ap (λ (n : ℕ). claim_key ids h n) (sym p.place_) ∙ key in
    let same : bytes ≡ decryption x.0 s.key = was.opened s bytes x.0 p.there clear x.1 in
    let puts : opened (fed_sample (world ids h) track index) (claim_key ids h place) ≡ bytes ∷ [] = ap (λ (o : Option EncSample). opened o (claim_key ids h place)) fed ∙ (ap (λ (o : Option KeyBytes). opened (Some x.0) o) keyed ∙ ap (λ (y : List ℕ). y ∷ []) (sym same)) in
    out_one ids h g (Publish track index place) did m ts (changed_at ts at (more_out bytes)) claims new track at bytes kept distinct was is ready.within (one_out ts at bytes ready.within) a (λ q. ap (λ (l : List (List ℕ)). if track == q then l else []) puts) (fewer_filter (is_other place) claims new less)

found_among : (ts : List TrackState) (id : ℕ) (s : TrackState) → find_track ts id ≡ Some s → is_among (map state_id ts) id ≡ true
found_among [] id s e = absurd cc
found_among (t ∷ ts) id s e = elim (eqb_tells t.id id) [
  | inl p ↦ rw p.0 refl
  | inr p ↦ rw p.0 (found_among ts id s (rw p.0 at e))
]

none_among : (ts : List TrackState) (id : ℕ) → find_track ts id ≡ None → is_among (map state_id ts) id ≡ false
none_among [] id e = refl
none_among (t ∷ ts) id e = (let k = track_none (eqb t.id id) t (find_track ts id) e in rw k.0 (none_among ts id k.1))

unnamed : (ids : List ℕ) (h : List Entry) (t track : ℕ) (s : TrackState) (l : List (List ℕ)) → is_among ids t ≡ false → find_track (world ids h).tracks track ≡ Some s → (if track == t then l else []) ≡ []
unnamed ids h t track s l none known = elim (eqb_tells track t) [
  | inl p ↦ absurd (true≢false (sym (subst (λ (q : ℕ). is_among ids q ≡ true) p.1 (ap (λ (ns : List ℕ). is_among ns track) (sym (world_ids ids h)) ∙ found_among (world ids h).tracks track s known)) ∙ none))
  | inr p ↦ rw p.0 refl
]

nothing_put : (ids : List ℕ) (h : List Entry) (t : ℕ) (e : Entry) → is_among ids t ≡ false → Allowed ids h e → output_of ids h t e ≡ []
nothing_put ids h t (Call lane line call) none may = refl
nothing_put ids h t Job none may = refl
nothing_put ids h t Task none may = refl
nothing_put ids h t (Tick line moment) none may = refl
nothing_put ids h t (Feed line fragment) none may = refl
nothing_put ids h t (Evict line label) none may = refl
nothing_put ids h t (Claim worker track index session kid) none may = refl
nothing_put ids h t (Deliver place verdict) none may = refl
nothing_put ids h t (GiveUp place) none may = refl
nothing_put ids h t (Publish track index place) none may = unnamed ids h t track may.state _ none may.known
nothing_put ids h t (PassClear track index) none may = unnamed ids h t track may.state _ none may.known
nothing_put ids h t (WaitForKey track) none may = refl
nothing_put ids h t (Settle line) none may = refl

out_start : (ids : List ℕ) (t : ℕ) → out ids [] t ≡ []
unfolding out
out_start ids t = refl

out_unknown : (ids : List ℕ) (t : ℕ) (h : List Entry) → is_among ids t ≡ false → IsLegal ids h → out ids h t ≡ []
out_unknown ids t h none legal = legal_induction ids (λ g. out ids g t ≡ []) (out_start ids t) (λ g e l may was. out_more ids g e t ∙ (ap (λ (ys : List (List ℕ)). ys ++ output_of ids g t e) was ∙ nothing_put ids g t e none may)) h legal

out_find : (ids : List ℕ) (h : List Entry) (ts : List FedTrack) (id k : ℕ) (t : FedTrack) → ((n : ℕ) (d : FedTrack) → n < length ts → (get_or ts n d).outputs ≡ out ids h (get_or ts n d).id) → find_fed ts id ≡ Some t → t.outputs ≡ out ids h id
out_find ids h [] id k t shows e = absurd cc
out_find ids h (u ∷ ts) id k t shows e = go (eqb u.id id) refl e (λ f. out_find ids h ts id k t (λ n d lt. shows (suc n) d (omega arith)) f) where
  go : (b : Bool) → eqb u.id id ≡ b → (if b then Some u else find_fed ts id) ≡ Some t → (find_fed ts id ≡ Some t → t.outputs ≡ out ids h id) → t.outputs ≡ out ids h id
  go true is e again = (let same : u ≡ t = some_alone _ _ e in subst (λ (x : FedTrack). x.outputs ≡ out ids h id) same (shows 0 u (omega arith) ∙ ap (λ (n : ℕ). out ids h n) (same_number u.id id is)))
  go false is e again = again e

-- what is out on the track that an id finds, and nothing on one that is not there
pub outputs_are : (ids : List ℕ) (h : List Entry) (did : List (List Effect)) (m : Machine) (ts : List FedTrack) (claims : List ClaimState) (id : ℕ) → LegalKept ids h did (world_of m ts) claims → OutKept ids h ts claims → outputs_of (find_fed ts id) ≡ out ids h id
outputs_are ids h did m ts claims id kept was = go (find_fed ts id) refl where
  go : (o : Option FedTrack) → find_fed ts id ≡ o → outputs_of o ≡ out ids h id
  go (Some t) e = out_find ids h ts id 0 t was.shows e
  go None e =
      let none : find_track (map track_of ts) id ≡ None = found_state ts id ∙ ap seen e in
      let gone : is_among ids id ≡ false = ap (λ (ns : List ℕ). is_among ns id) (sym (world_ids ids h)) ∙ none_among (world ids h).tracks id (subst (λ (w : World). find_track w.tracks id ≡ None) kept.state none) in
      sym (out_unknown ids id h gone kept.legal)

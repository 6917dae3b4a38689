-- What was fed, claimed and published on a track.
use Rattle.std.proofs.Common.{◌≡◌, ℕ, ◌+◌, ◌-◌, Bool, true, false, inl, inr, List, [], ◌∷◌, ◌++◌, length, map, take, Option, Some, None, refl, ap, sym, subst, ◌∙◌, arith, eqb, append-nil, append_assoc, length-append}
use Rattle.std.specs.Prelude.{slice_get, if◌then◌else◌, flat_map}
use Rattle.std.specs.List.{fold}
use Rattle.std.proofs.lemmas.Bool.Decides.{eqb_tells}
use Rattle.eme_types.specs.declared.sample.EncSample.{EncSample}
use Rattle.eme_types.specs.declared.media.TrackPart.{TrackPart}
use Rattle.eme_types.specs.declared.media.Fragment.{Fragment}
use Rattle.eme_types.specs.declared.entry.Entry.{Entry}
use Rattle.eme_types.specs.declared.entry.Entry.TheVariants.{Call, Job, Task, Tick, Feed, Evict, Claim, Deliver, GiveUp, Publish, PassClear, WaitForKey, Settle}
use Rattle.cdm_world.specs.Tracks.{Picks, TrackState, empty_track, head, has_pick, find_track, change_track, feed_part, feed_parts, add_samples, one_more, set_waiting, resumed, resumed_track}
use Rattle.key_sessions.specs.Keys.{held_key, pick}
use Rattle.key_sessions.specs.World.{World, empty_world, resumes}
use Rattle.cdm_state.specs.After.{after_entry, feed_step}
use Rattle.cdm_state.specs.Feeds.{parts_in}
use Rattle.cdm_state.specs.Slots.{entry_of}
use Rattle.cdm_state.specs.Output.{fed_at, fed_sample, key_for, claim_key, opened, data_of, output_of, out}
use Rattle.cdm_state.specs.History.{world, IsAt, IsLegal, Allowed, MayPublish, MayPassClear}
use Rattle.cdm_state.specs.OfSamples.{part_on, samples_on, FedInOrder, IsOfItsSample, LiveClaimsAreOfTheirSamples, PublishedAreOut}
use Rattle.cdm_state.proofs.TrackLists.{not_same}
use Rattle.cdm_state.proofs.Histories.{world_more, legal_induction}
use Rattle.cdm_state.proofs.Live.{at_within, live_now}
use Rattle.cdm_state.proofs.May.{live_slot}
use Rattle.cdm_state.proofs.FedOn.{fed_since}
use Rattle.cdm_state.proofs.OutOn.{out_more}
use Rattle.cdm_state.proofs.Resuming.{change_found, map_found, feed_found, resumed_same_id}
use Rattle.cdm_state.proofs.Progress.{keeps}
use Rattle.cdm_state.proofs.Plain.{some_alone}

pub live_of_sample : LiveClaimsAreOfTheirSamples
unfolding IsLegal
live_of_sample ids h place track index legal on =
    let k = keeps ids h legal in
    let s = live_slot ids h k.0 place track index k.1 on in
    let c = s.slot in
    let live = k.1.live c s.there in
    let may = legal (c.place - 1) (entry_of c) live.at.1 in
    let here : IsOfItsSample ids h c.place c.track c.index = record {
      worker = c.worker;
      session = c.session;
      sample = may.sample;
      protect = may.protect;
      key = c.key;
      at = subst (λ (i : List ℕ). IsAt h c.place (Claim c.worker c.track c.index c.session i)) (sym may.same_id) live.at;
      fed = fed_since ids h (c.place - 1) c.track c.index may.sample (ap (λ (o : Option TrackState). fed_at o c.index) may.known ∙ may.fed);
      protected = may.protected;
      held = subst (λ (i : List ℕ). held_key (world ids h).machine c.session i ≡ Some c.key) (sym may.same_id) (live_now ids h c.place (entry_of c) c.key live);
      claimed = ap (λ (o : Option Entry). key_for (world ids (take c.place h)) o) live.at.1 ∙ live.held c.place (omega arith) (at_within h c.place (entry_of c) live.at);
    } in
    subst (λ (n : ℕ). IsOfItsSample ids h n track index) s.place_ (subst (λ (i : ℕ). IsOfItsSample ids h c.place track i) s.index_ (subst (λ (t : ℕ). IsOfItsSample ids h c.place t c.index) s.track_ here))

-- the track that is found after the one with its id, or another, is changed

found_changed : (ts : List TrackState) (id : ℕ) (f : TrackState → TrackState) → ((s : TrackState) → (f s).id ≡ s.id) → (u : TrackState) → find_track (change_track ts id f) id ≡ Some u → (t : TrackState) × (find_track ts id ≡ Some t) × (u ≡ f t)
found_changed [] id f same u e = absurd cc
found_changed (s ∷ ts) id f same u e = elim (eqb_tells s.id id) [
  | inl q ↦ (let k : eqb (f s).id id ≡ true = ap (λ (n : ℕ). eqb n id) (same s) ∙ q.0 in let here : Some (f s) ≡ Some u = rw (q.0, k) at e in (s, rw q.0 refl, sym (some_alone (f s) u here)))
  | inr q ↦ (let r = found_changed ts id f same u (rw (q.0, q.0) at e) in (r.0, rw q.0 r.1, r.2))
]

found_other : (ts : List TrackState) (track id : ℕ) (f : TrackState → TrackState) → ((s : TrackState) → (f s).id ≡ s.id) → (track ≡ id → ⊥) → find_track (change_track ts track f) id ≡ find_track ts id
found_other [] track id f same ne = refl
found_other (s ∷ ts) track id f same ne = elim (eqb_tells s.id track) [
  | inl p ↦ (let k : eqb s.id id ≡ false = not_same s.id id (λ q. ne (sym p.1 ∙ q)) in let j : eqb (f s).id id ≡ false = ap (λ (n : ℕ). eqb n id) (same s) ∙ k in rw (p.0, j, k) refl)
  | inr p ↦ elim (eqb_tells s.id id) [ inl q ↦ rw (p.0, q.0) refl | inr q ↦ rw (p.0, q.0) (found_other ts track id f same ne) ]
]

-- the track that an id finds has these samples more
abbrev Adds : List TrackState → List TrackState → ℕ → List EncSample → Type 0
Adds ts us id xs = (u : TrackState) → find_track us id ≡ Some u → (t : TrackState) × (find_track ts id ≡ Some t) × (u.fed ≡ t.fed ++ xs)

adds_none : (ts : List TrackState) (id : ℕ) → Adds ts ts id []
adds_none ts id u at = (u, at, sym (append-nil u.fed))

adds_then : (ts us vs : List TrackState) (id : ℕ) (xs ys : List EncSample) → Adds ts us id xs → Adds us vs id ys → Adds ts vs id (xs ++ ys)
adds_then ts us vs id xs ys a b u at =
    let second = b u at in
    let first = a second.0 second.1 in
    (first.0, first.1, second.2 ∙ (ap (λ (l : List EncSample). l ++ ys) first.2 ∙ append_assoc first.0.fed xs ys))

adds_changed : (ts : List TrackState) (track id : ℕ) (f : TrackState → TrackState) → ((s : TrackState) → (f s).id ≡ s.id) → ((s : TrackState) → (f s).fed ≡ s.fed) → Adds ts (change_track ts track f) id []
adds_changed ts track id f same fed u at =
    let r = change_found ts track f same id u at in
    let kept : u.fed ≡ r.0.fed = elim r.2 [ inl p ↦ ap (λ (s : TrackState). s.fed) p.1 ∙ fed r.0 | inr p ↦ ap (λ (s : TrackState). s.fed) p ] in
    (r.0, r.1, kept ∙ sym (append-nil r.0.fed))

resumed_kept : (b : Bool) (s : TrackState) → ((if b then record s { waiting = false } else s).fed ≡ s.fed) × ((if b then record s { waiting = false } else s).published ≡ s.published)
resumed_kept true s = (refl, refl)
resumed_kept false s = (refl, refl)

adds_looked : (b : Bool) (picks : Picks) (ts : List TrackState) (id : ℕ) → Adds ts (if b then resumed picks ts else ts) id []
adds_looked true picks ts id u at =
    let r = map_found (resumed_track picks) (resumed_same_id picks) ts id u at in
    (r.0, r.1, ap (λ (s : TrackState). s.fed) r.2 ∙ ((resumed_kept (has_pick picks (head r.0)) r.0).0 ∙ sym (append-nil r.0.fed)))
adds_looked false picks ts id u at = adds_none ts id u at

adds_part : (ts : List TrackState) (p : TrackPart) (id : ℕ) → Adds ts (feed_part ts p) id (part_on id p)
adds_part ts p id u at = elim (eqb_tells p.track id) [
  | inl q ↦ (let r = found_changed ts p.track (add_samples p.samples) (λ s. refl) u (subst (λ (n : ℕ). find_track (feed_part ts p) n ≡ Some u) (sym q.1) at) in (r.0, subst (λ (n : ℕ). find_track ts n ≡ Some r.0) q.1 r.1, rw q.0 (ap (λ (s : TrackState). s.fed) r.2)))
  | inr q ↦ (u, sym (found_other ts p.track id (add_samples p.samples) (λ s. refl) q.1) ∙ at, rw q.0 (sym (append-nil u.fed)))
]

adds_parts : (ts : List TrackState) (parts : List TrackPart) (id : ℕ) → Adds ts (feed_parts ts parts) id (flat_map (part_on id) parts)
adds_parts ts [] id = adds_none ts id
adds_parts ts (p ∷ parts) id = adds_then ts (feed_part ts p) (feed_parts (feed_part ts p) parts) id (part_on id p) (flat_map (part_on id) parts) (adds_part ts p id) (adds_parts (feed_part ts p) parts id)

adds_feed : (w : World) (f : Option Fragment) (id : ℕ) → Adds w.tracks (feed_step w f).tracks id (flat_map (part_on id) (parts_in f))
adds_feed w None id = adds_none w.tracks id
adds_feed w (Some f) id = adds_parts w.tracks f.parts id

adds_entry : (w : World) (e : Entry) (id : ℕ) → Adds w.tracks (after_entry w e).tracks id (samples_on id e)
adds_entry w (Call lane line call) id = adds_none w.tracks id
adds_entry w Job id = adds_none w.tracks id
adds_entry w Task id = adds_looked (resumes w.machine.tasks) (pick w.machine) w.tracks id
adds_entry w (Tick line moment) id = adds_none w.tracks id
adds_entry w (Feed line fragment) id = adds_feed w fragment id
adds_entry w (Evict line label) id = adds_none w.tracks id
adds_entry w (Claim worker track index session kid) id = adds_none w.tracks id
adds_entry w (Deliver place verdict) id = adds_none w.tracks id
adds_entry w (GiveUp place) id = adds_none w.tracks id
adds_entry w (Publish track index place) id = adds_changed w.tracks track id one_more (λ s. refl) (λ s. refl)
adds_entry w (PassClear track index) id = adds_changed w.tracks track id one_more (λ s. refl) (λ s. refl)
adds_entry w (WaitForKey track) id = adds_changed w.tracks track id set_waiting (λ s. refl) (λ s. refl)
adds_entry w (Settle line) id = adds_none w.tracks id

adds_all : (w : World) (es : List Entry) (id : ℕ) → Adds w.tracks (fold after_entry w es).tracks id (flat_map (samples_on id) es)
adds_all w [] id = adds_none w.tracks id
adds_all w (e ∷ es) id = adds_then w.tracks (after_entry w e).tracks (fold after_entry (after_entry w e) es).tracks id (samples_on id e) (flat_map (samples_on id) es) (adds_entry w e id) (adds_all (after_entry w e) es id)

-- before the first entry nothing is fed and nothing is out
empty_found : (ids : List ℕ) (id : ℕ) (t : TrackState) → find_track (map empty_track ids) id ≡ Some t → (t.fed ≡ []) × (t.published ≡ 0)
empty_found [] id t e = absurd cc
empty_found (n ∷ ids) id t e = go (eqb n id) e (empty_found ids id t) where
  go : (b : Bool) → (if b then Some (empty_track n) else find_track (map empty_track ids) id) ≡ Some t → (find_track (map empty_track ids) id ≡ Some t → (t.fed ≡ []) × (t.published ≡ 0)) → (t.fed ≡ []) × (t.published ≡ 0)
  go true same rest = (let is = some_alone (empty_track n) t same in (sym (ap (λ (s : TrackState). s.fed) is), sym (ap (λ (s : TrackState). s.published) is)))
  go false more rest = rest more

pub fed_in_order : FedInOrder
unfolding world
fed_in_order ids h track t found =
    let a = adds_all (empty_world ids) h track t found in
    a.2 ∙ ap (λ (l : List EncSample). l ++ flat_map (samples_on track) h) (empty_found ids track a.0 a.1).0

-- as many samples are published as are out
abbrev Counts : List ℕ → List Entry → Type 0
Counts ids h = (id : ℕ) (t : TrackState) → find_track (world ids h).tracks id ≡ Some t → t.published ≡ length (out ids h id)

-- the track that an id finds has as many samples out
abbrev KeepsCount : List TrackState → List TrackState → Type 0
KeepsCount ts us = (id : ℕ) (u : TrackState) → find_track us id ≡ Some u → (t : TrackState) × (find_track ts id ≡ Some t) × (u.published ≡ t.published)

same_counts : (ts : List TrackState) → KeepsCount ts ts
same_counts ts id u at = (u, at, refl)

looked_counts : (b : Bool) (picks : Picks) (ts : List TrackState) → KeepsCount ts (if b then resumed picks ts else ts)
looked_counts true picks ts id u at =
    let r = map_found (resumed_track picks) (resumed_same_id picks) ts id u at in
    (r.0, r.1, ap (λ (s : TrackState). s.published) r.2 ∙ (resumed_kept (has_pick picks (head r.0)) r.0).1)
looked_counts false picks ts id u at = (u, at, refl)

waiting_counts : (ts : List TrackState) (track : ℕ) → KeepsCount ts (change_track ts track set_waiting)
waiting_counts ts track id u at =
    let r = change_found ts track set_waiting (λ s. refl) id u at in
    (r.0, r.1, elim r.2 [ inl p ↦ ap (λ (s : TrackState). s.published) p.1 | inr p ↦ ap (λ (s : TrackState). s.published) p ])

fed_counts : (w : World) (f : Option Fragment) → KeepsCount w.tracks (feed_step w f).tracks
fed_counts w f id u at = (let r = feed_found w f id u at in (r.0, r.1, r.2.published))

-- after an entry that puts nothing out
counts_stay : (ids : List ℕ) (h : List Entry) (e : Entry) → KeepsCount (world ids h).tracks (after_entry (world ids h) e).tracks → ((id : ℕ) → output_of ids h id e ≡ []) → Counts ids h → Counts ids (h ++ e ∷ [])
counts_stay ids h e same none was id u found =
    let r = same id u (subst (λ (w : World). find_track w.tracks id ≡ Some u) (world_more ids h e) found) in
    let more : out ids (h ++ e ∷ []) id ≡ out ids h id = out_more ids h e id ∙ (ap (λ (l : List (List ℕ)). out ids h id ++ l) (none id) ∙ append-nil (out ids h id)) in
    r.2 ∙ (was id r.0 r.1 ∙ sym (ap (λ (l : List (List ℕ)). length l) more))

-- after one that puts one sample of a track out
counts_grow : (ids : List ℕ) (h : List Entry) (e : Entry) (track : ℕ) (xs : List (List ℕ)) → (after_entry (world ids h) e).tracks ≡ change_track (world ids h).tracks track one_more → length xs ≡ 1 → ((id : ℕ) → output_of ids h id e ≡ (if eqb track id then xs else [])) → Counts ids h → Counts ids (h ++ e ∷ [])
counts_grow ids h e track xs moved one puts was id u found =
    let after : find_track (change_track (world ids h).tracks track one_more) id ≡ Some u = ap (λ (ts : List TrackState). find_track ts id) (sym moved) ∙ subst (λ (w : World). find_track w.tracks id ≡ Some u) (world_more ids h e) found in
    let more : length (out ids (h ++ e ∷ []) id) ≡ length (out ids h id) + length (if eqb track id then xs else []) = ap (λ (l : List (List ℕ)). length l) (out_more ids h e id) ∙ (length-append (out ids h id) (output_of ids h id e) ∙ ap (λ (l : List (List ℕ)). length (out ids h id) + length l) (puts id)) in
    elim (eqb_tells track id) [
      | inl p ↦
          let r = found_changed (world ids h).tracks track one_more (λ s. refl) u (subst (λ (n : ℕ). find_track (change_track (world ids h).tracks track one_more) n ≡ Some u) (sym p.1) after) in
          let before = was id r.0 (subst (λ (n : ℕ). find_track (world ids h).tracks n ≡ Some r.0) p.1 r.1) in
          let now : u.published ≡ r.0.published + 1 = ap (λ (s : TrackState). s.published) r.2 in
          let long : length (out ids (h ++ e ∷ []) id) ≡ length (out ids h id) + length xs = rw p.0 at more in
          omega (arith, before, now, long, one)
      | inr p ↦
          let before = was id u (sym (found_other (world ids h).tracks track id one_more (λ s. refl) p.1) ∙ after) in
          let long : length (out ids (h ++ e ∷ []) id) ≡ length (out ids h id) + 0 = rw p.0 at more in
          omega (arith, before, long)
    ]

counts_published : (ids : List ℕ) (h : List Entry) (track index place : ℕ) → IsLegal ids h → MayPublish ids h track index place → Counts ids h → Counts ids (h ++ Publish track index place ∷ [])
counts_published ids h track index place legal may was =
    let o = live_of_sample ids h place track index legal may.live in
    let puts : opened (fed_sample (world ids h) track index) (claim_key ids h place) ≡ opened (Some o.sample) (Some o.key) = rw (o.fed, o.claimed) refl in
    counts_grow ids h (Publish track index place) track (opened (fed_sample (world ids h) track index) (claim_key ids h place)) refl (ap (λ (l : List (List ℕ)). length l) puts) (λ id. refl) was

counts_passed : (ids : List ℕ) (h : List Entry) (track index : ℕ) → MayPassClear ids h track index → Counts ids h → Counts ids (h ++ PassClear track index ∷ [])
counts_passed ids h track index may was =
    let fed : fed_sample (world ids h) track index ≡ Some may.sample = ap (λ (o : Option TrackState). fed_at o index) may.known ∙ (ap (λ (i : ℕ). slice_get may.state.fed i) may.next ∙ may.fed) in
    counts_grow ids h (PassClear track index) track (data_of (fed_sample (world ids h) track index)) refl (ap (λ (o : Option EncSample). length (data_of o)) fed) (λ id. refl) was

counts_more : (ids : List ℕ) (h : List Entry) (e : Entry) → IsLegal ids h → Allowed ids h e → Counts ids h → Counts ids (h ++ e ∷ [])
counts_more ids h (Call lane line call) legal may was = counts_stay ids h (Call lane line call) (same_counts (world ids h).tracks) (λ id. refl) was
counts_more ids h Job legal may was = counts_stay ids h Job (same_counts (world ids h).tracks) (λ id. refl) was
counts_more ids h Task legal may was = counts_stay ids h Task (looked_counts (resumes (world ids h).machine.tasks) (pick (world ids h).machine) (world ids h).tracks) (λ id. refl) was
counts_more ids h (Tick line moment) legal may was = counts_stay ids h (Tick line moment) (same_counts (world ids h).tracks) (λ id. refl) was
counts_more ids h (Feed line fragment) legal may was = counts_stay ids h (Feed line fragment) (fed_counts (world ids h) fragment) (λ id. refl) was
counts_more ids h (Evict line label) legal may was = counts_stay ids h (Evict line label) (same_counts (world ids h).tracks) (λ id. refl) was
counts_more ids h (Claim worker track index session kid) legal may was = counts_stay ids h (Claim worker track index session kid) (same_counts (world ids h).tracks) (λ id. refl) was
counts_more ids h (Deliver place verdict) legal may was = counts_stay ids h (Deliver place verdict) (same_counts (world ids h).tracks) (λ id. refl) was
counts_more ids h (GiveUp place) legal may was = counts_stay ids h (GiveUp place) (same_counts (world ids h).tracks) (λ id. refl) was
counts_more ids h (Publish track index place) legal may was = counts_published ids h track index place legal may was
counts_more ids h (PassClear track index) legal may was = counts_passed ids h track index may was
counts_more ids h (WaitForKey track) legal may was = counts_stay ids h (WaitForKey track) (waiting_counts (world ids h).tracks track) (λ id. refl) was
counts_more ids h (Settle line) legal may was = counts_stay ids h (Settle line) (same_counts (world ids h).tracks) (λ id. refl) was

counts_none : (ids : List ℕ) → Counts ids []
unfolding world out
counts_none ids id t found = (empty_found ids id t found).1

pub published_out : PublishedAreOut
published_out ids h track t legal found = legal_induction ids (Counts ids) (counts_none ids) (λ g e l may was. counts_more ids g e l may was) h legal track t found

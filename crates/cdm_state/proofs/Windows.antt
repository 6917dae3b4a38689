-- A sample has at most one live claim, which is in the window of its track.
use Rattle.std.proofs.Common.{◌≡◌, ℕ, ◌+◌, ◌-◌, ◌<◌, ◌≤◌, ◌⊎◌, inl, inr, Bool, true, false, List, [], ◌∷◌, ◌++◌, length, Option, Some, None, refl, ap, sym, subst, ◌∙◌, arith}
use Rattle.std.specs.Prelude.{slice_get, if◌then◌else◌}
use Rattle.std.proofs.Math.Nat.{eq-or-lt_of_le}
use Rattle.eme_types.specs.declared.sample.EncSample.{EncSample}
use Rattle.eme_types.specs.declared.sample.Protect.{Protect}
use Rattle.eme_types.specs.declared.entry.Entry.{Entry}
use Rattle.eme_types.specs.declared.entry.Entry.TheVariants.{Call, Job, Task, Tick, Feed, Evict, Claim, Deliver, GiveUp, Publish, PassClear, WaitForKey, Settle}
use Rattle.key_sessions.specs.Keys.{pick}
use Rattle.key_sessions.specs.World.{World, resumes}
use Rattle.cdm_world.specs.Tracks.{TrackState, head, has_pick, find_track, one_more, set_waiting, resumed, resumed_track}
use Rattle.cdm_state.specs.After.{after_entry}
use Rattle.cdm_state.specs.Output.{fed_at, fed_sample}
use Rattle.cdm_state.specs.History.{world, IsAt, IsOn, IsLegal, Allowed, Ends, LiveOn}
use Rattle.cdm_state.specs.Law.{ClaimsEachOnce, ClaimsInTheWindow}
use Rattle.cdm_state.proofs.Places.{either_place, slice_get_last}
use Rattle.cdm_state.proofs.Histories.{world_more, legal_induction}
use Rattle.cdm_state.proofs.Live.{live_less, at_within}
use Rattle.cdm_state.proofs.FedOn.{fed_since}
use Rattle.cdm_state.proofs.Resuming.{change_found, map_found, feed_found, same_track}
use Rattle.cdm_state.proofs.Plain.{some_alone, nothing_there}

-- a live claim of the longer history was live in the shorter one, or is the new entry
live_split : (ids : List ℕ) (h : List Entry) (e : Entry) (place track index : ℕ) → LiveOn ids (h ++ e ∷ []) place track index → LiveOn ids h place track index ⊎ (IsOn e track index × (place ≡ length h + 1))
live_split ids h e place track index on =
    elim (either_place h e (place - 1) on.claim on.live.at.1) [
      | inl p ↦ inl (record { claim = on.claim; key = on.key; live = live_less ids h e place on.claim on.key on.live (at_within h place on.claim (on.live.at.0, p.0)); on = on.on })
      | inr p ↦ inr (subst (λ (c : Entry). IsOn c track index) p.0 on.on, omega (arith, on.live.at.0, p.2))
    ]

-- a new claim is on a sample without a live one
claim_free : (ids : List ℕ) (h : List Entry) (e : Entry) (track index place : ℕ) → Allowed ids h e → IsOn e track index → LiveOn ids h place track index → ⊥
claim_free ids h (Call lane line call) track index place may on live = on
claim_free ids h Job track index place may on live = on
claim_free ids h Task track index place may on live = on
claim_free ids h (Tick line moment) track index place may on live = on
claim_free ids h (Feed line fragment) track index place may on live = on
claim_free ids h (Evict line label) track index place may on live = on
claim_free ids h (Claim worker t i session kid) track index place may on live = may.free place (subst (λ (n : ℕ). LiveOn ids h place n i) (sym on.0) (subst (λ (n : ℕ). LiveOn ids h place track n) (sym on.1) live))
claim_free ids h (Deliver p verdict) track index place may on live = on
claim_free ids h (GiveUp p) track index place may on live = on
claim_free ids h (Publish t i p) track index place may on live = on
claim_free ids h (PassClear t i) track index place may on live = on
claim_free ids h (WaitForKey t) track index place may on live = on
claim_free ids h (Settle line) track index place may on live = on

-- the sample of a claim is protected
record Protected (ids : List ℕ) (h : List Entry) (track index : ℕ) : Type 0 where
  sample : EncSample
  fed : fed_sample (world ids h) track index ≡ Some sample
  protect : Protect
  protected : sample.protect ≡ Some protect

claim_protected : (ids : List ℕ) (h : List Entry) (e : Entry) (place track index : ℕ) → IsLegal ids h → IsAt h place e → IsOn e track index → Protected ids h track index
unfolding IsLegal
claim_protected ids h (Call lane line call) place track index legal at on = absurd on
claim_protected ids h Job place track index legal at on = absurd on
claim_protected ids h Task place track index legal at on = absurd on
claim_protected ids h (Tick line moment) place track index legal at on = absurd on
claim_protected ids h (Feed line fragment) place track index legal at on = absurd on
claim_protected ids h (Evict line label) place track index legal at on = absurd on
claim_protected ids h (Claim worker t i session kid) place track index legal at on =
    let may = legal (place - 1) (Claim worker t i session kid) at.1 in
    let fed = fed_since ids h (place - 1) t i may.sample (ap (λ (o : Option TrackState). fed_at o i) may.known ∙ may.fed) in
    record {
      sample = may.sample;
      fed = subst (λ (n : ℕ). fed_sample (world ids h) n index ≡ Some may.sample) on.0 (subst (λ (n : ℕ). fed_sample (world ids h) t n ≡ Some may.sample) on.1 fed);
      protect = may.protect;
      protected = may.protected;
    }
claim_protected ids h (Deliver p verdict) place track index legal at on = absurd on
claim_protected ids h (GiveUp p) place track index legal at on = absurd on
claim_protected ids h (Publish t i p) place track index legal at on = absurd on
claim_protected ids h (PassClear t i) place track index legal at on = absurd on
claim_protected ids h (WaitForKey t) place track index legal at on = absurd on
claim_protected ids h (Settle line) place track index legal at on = absurd on

record Windowed (ids : List ℕ) (h : List Entry) : Type 0 where
  one : (track index p q : ℕ) → LiveOn ids h p track index → LiveOn ids h q track index → p ≡ q
  within : (track index p : ℕ) (t : TrackState) → LiveOn ids h p track index → find_track (world ids h).tracks track ≡ Some t → (t.published ≤ index) × (index < t.published + 16)

same_window : (ids : List ℕ) (h : List Entry) (track index p : ℕ) (t u : TrackState) → Windowed ids h → LiveOn ids h p track index → find_track (world ids h).tracks track ≡ Some t → u.published ≡ t.published → (u.published ≤ index) × (index < u.published + 16)
same_window ids h track index p t u w on found same = (let r = w.within track index p t on found in (omega (arith, r.0, same), omega (arith, r.1, same)))

-- one more sample is out, and the claim is not on it
moved_window : (ids : List ℕ) (h : List Entry) (track index p : ℕ) (t u : TrackState) → Windowed ids h → LiveOn ids h p track index → find_track (world ids h).tracks track ≡ Some t → u.published ≡ t.published + 1 → (t.published ≡ index → ⊥) → (u.published ≤ index) × (index < u.published + 16)
moved_window ids h track index p t u w on found more other =
    let r = w.within track index p t on found in
    elim (eq-or-lt_of_le r.0) [ inl e ↦ absurd (other e) | inr lt ↦ (omega (arith, lt, more), omega (arith, r.1, more)) ]

resumed_published : (b : Bool) (t : TrackState) → (if b then record t { waiting = false } else t).published ≡ t.published
resumed_published true t = refl
resumed_published false t = refl

resumed_id : (b : Bool) (t : TrackState) → (if b then record t { waiting = false } else t).id ≡ t.id
resumed_id true t = refl
resumed_id false t = refl

task_window : (b : Bool) (ids : List ℕ) (h : List Entry) (track index p : ℕ) (u : TrackState) → Windowed ids h → LiveOn ids h p track index → find_track (if b then resumed (pick (world ids h).machine) (world ids h).tracks else (world ids h).tracks) track ≡ Some u → (u.published ≤ index) × (index < u.published + 16)
task_window false ids h track index p u w on found = w.within track index p u on found
task_window true ids h track index p u w on found =
    let picks = pick (world ids h).machine in
    let r = map_found (resumed_track picks) (λ s. resumed_id (has_pick picks (head s)) s) (world ids h).tracks track u found in
    same_window ids h track index p r.0 u w on r.1 (ap (λ (s : TrackState). s.published) r.2 ∙ resumed_published (has_pick picks (head r.0)) r.0)

-- a claim that is still live after the entry
old_window : (ids : List ℕ) (h : List Entry) (e : Entry) (track index p : ℕ) (u : TrackState) → IsLegal ids h → Allowed ids h e → Windowed ids h → LiveOn ids h p track index → (Ends e p → ⊥) → find_track (after_entry (world ids h) e).tracks track ≡ Some u → (u.published ≤ index) × (index < u.published + 16)
old_window ids h (Call lane line call) track index p u legal may w on stays found = w.within track index p u on found
old_window ids h Job track index p u legal may w on stays found = w.within track index p u on found
old_window ids h Task track index p u legal may w on stays found = task_window (resumes (world ids h).machine.tasks) ids h track index p u w on found
old_window ids h (Tick line moment) track index p u legal may w on stays found = w.within track index p u on found
old_window ids h (Feed line fragment) track index p u legal may w on stays found = (let r = feed_found (world ids h) fragment track u found in same_window ids h track index p r.0 u w on r.1 r.2.published)
old_window ids h (Evict line label) track index p u legal may w on stays found = w.within track index p u on found
old_window ids h (Claim worker t i session kid) track index p u legal may w on stays found = w.within track index p u on found
old_window ids h (Deliver place verdict) track index p u legal may w on stays found = w.within track index p u on found
old_window ids h (GiveUp place) track index p u legal may w on stays found = w.within track index p u on found
old_window ids h (Publish t i place) track index p u legal may w on stays found =
    let r = change_found (world ids h).tracks t one_more (λ s. refl) track u found in
    elim r.2 [
      | inl moved ↦ moved_window ids h track index p r.0 u w on r.1 (ap (λ (s : TrackState). s.published) moved.1) (λ here.
          (let is : may.state ≡ r.0 = same_track (world ids h).tracks t track may.state r.0 moved.0 may.known r.1 in
          let next : i ≡ index = may.next ∙ (ap (λ (s : TrackState). s.published) is ∙ here) in
          let there : LiveOn ids h place track index = subst (λ (n : ℕ). LiveOn ids h place n index) moved.0 (subst (λ (n : ℕ). LiveOn ids h place t n) next may.live) in
          stays (w.one track index place p there on)))
      | inr same ↦ same_window ids h track index p r.0 u w on r.1 (ap (λ (s : TrackState). s.published) same)
    ]
old_window ids h (PassClear t i) track index p u legal may w on stays found =
    let r = change_found (world ids h).tracks t one_more (λ s. refl) track u found in
    elim r.2 [
      | inl moved ↦ moved_window ids h track index p r.0 u w on r.1 (ap (λ (s : TrackState). s.published) moved.1) (λ here.
          (let is : may.state ≡ r.0 = same_track (world ids h).tracks t track may.state r.0 moved.0 may.known r.1 in
          let x = claim_protected ids h on.claim p track index legal on.live.at on.on in
          let fed : slice_get r.0.fed index ≡ Some may.sample = ap (λ (n : ℕ). slice_get r.0.fed n) (sym here) ∙ (ap head (sym is) ∙ may.fed) in
          let fed2 : slice_get r.0.fed index ≡ Some x.sample = sym (ap (λ (o : Option TrackState). fed_at o index) r.1) ∙ x.fed in
          let one : may.sample ≡ x.sample = some_alone _ _ (sym fed ∙ fed2) in
          let clash : None ≡ Some x.protect = sym may.clear ∙ (ap (λ (s : EncSample). s.protect) one ∙ x.protected) in
          absurd cc))
      | inr same ↦ same_window ids h track index p r.0 u w on r.1 (ap (λ (s : TrackState). s.published) same)
    ]
old_window ids h (WaitForKey t) track index p u legal may w on stays found =
    let r = change_found (world ids h).tracks t set_waiting (λ s. refl) track u found in
    elim r.2 [
      | inl moved ↦ same_window ids h track index p r.0 u w on r.1 (ap (λ (s : TrackState). s.published) moved.1)
      | inr same ↦ same_window ids h track index p r.0 u w on r.1 (ap (λ (s : TrackState). s.published) same)
    ]
old_window ids h (Settle line) track index p u legal may w on stays found = w.within track index p u on found

new_window : (ids : List ℕ) (h : List Entry) (e : Entry) (track index : ℕ) (u : TrackState) → Allowed ids h e → IsOn e track index → find_track (after_entry (world ids h) e).tracks track ≡ Some u → (u.published ≤ index) × (index < u.published + 16)
new_window ids h (Call lane line call) track index u may on found = absurd on
new_window ids h Job track index u may on found = absurd on
new_window ids h Task track index u may on found = absurd on
new_window ids h (Tick line moment) track index u may on found = absurd on
new_window ids h (Feed line fragment) track index u may on found = absurd on
new_window ids h (Evict line label) track index u may on found = absurd on
new_window ids h (Claim worker t i session kid) track index u may on found =
    let is : may.state ≡ u = same_track (world ids h).tracks t track may.state u on.0 may.known found in
    let n = ap (λ (s : TrackState). s.published) is in
    (omega (arith, n, on.1, may.from), omega (arith, n, on.1, may.window))
new_window ids h (Deliver place verdict) track index u may on found = absurd on
new_window ids h (GiveUp place) track index u may on found = absurd on
new_window ids h (Publish t i place) track index u may on found = absurd on
new_window ids h (PassClear t i) track index u may on found = absurd on
new_window ids h (WaitForKey t) track index u may on found = absurd on
new_window ids h (Settle line) track index u may on found = absurd on

windowed_more : (ids : List ℕ) (h : List Entry) (e : Entry) → IsLegal ids h → Allowed ids h e → Windowed ids h → Windowed ids (h ++ e ∷ [])
windowed_more ids h e legal may w = record {
  one = λ track index p q a b. elim (live_split ids h e p track index a) [
    | inl x ↦ elim (live_split ids h e q track index b) [ inl y ↦ w.one track index p q x y | inr y ↦ absurd (claim_free ids h e track index p may y.0 x) ]
    | inr x ↦ elim (live_split ids h e q track index b) [ inl y ↦ absurd (claim_free ids h e track index q may x.0 y) | inr y ↦ x.1 ∙ sym y.1 ]
  ];
  within = λ track index p u a found.
      (let there = subst (λ (v : World). find_track v.tracks track ≡ Some u) (world_more ids h e) found in
      elim (live_split ids h e p track index a) [
        | inl x ↦ old_window ids h e track index p u legal may w x (λ ends. a.live.unended (length h) e (slice_get_last h e) ends) there
        | inr x ↦ new_window ids h e track index u may x.0 there
      ]);
}

none_live : (ids : List ℕ) (place track index : ℕ) → LiveOn ids [] place track index → ⊥
none_live ids place track index on = nothing_there (place - 1) on.claim on.live.at.1

windowed_start : (ids : List ℕ) → Windowed ids []
windowed_start ids = record { one = λ track index p q a b. absurd (none_live ids p track index a); within = λ track index p t a found. absurd (none_live ids p track index a) }

windowed : (ids : List ℕ) (h : List Entry) → IsLegal ids h → Windowed ids h
windowed ids h legal = legal_induction ids (Windowed ids) (windowed_start ids) (windowed_more ids) h legal

pub claims_each_once : ClaimsEachOnce
claims_each_once ids h track index p q legal a b = (let w = windowed ids h legal in w.one track index p q a b)

pub claims_in_the_window : ClaimsInTheWindow
claims_in_the_window ids h track index p t legal on found = (let w = windowed ids h legal in w.within track index p t on found)

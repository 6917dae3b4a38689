-- Each step of a settle lowers what is left to do.
use Rattle.std.proofs.Common.{◌≡◌, ℕ, ◌+◌, ◌-◌, ◌≤◌, ◌<◌, Bool, true, false, IsTrue, List, [], ◌∷◌, ◌++◌, Some, length, map, inl, inr, refl, ap, ◌∙◌, sym, subst, append_assoc, append-nil, arith, eqb}
use Rattle.std.specs.Prelude.{slice_get, filter, ◌&&◌, if◌then◌else◌}
use Rattle.std.specs.List.{sum_by, AllByRecursion}
use Rattle.std.proofs.lemmas.List.{length-map, length-drop}
use Rattle.std.proofs.lemmas.List.Sums.{sum_by-cons, sum_by-le-sum_by}
use Rattle.std.proofs.lemmas.Bool.Decides.{eqb_tells}
use Rattle.eme_types.specs.declared.kid.KeyBytes.{KeyBytes}
use Rattle.eme_types.specs.declared.sample.EncSample.{EncSample}
use Rattle.eme_types.specs.declared.entry.Verdict.{Verdict}
use Rattle.eme_types.specs.declared.entry.Entry.{Entry}
use Rattle.eme_types.specs.declared.entry.Entry.TheVariants.{Call, Job, Task, Tick, Feed, Evict, Claim, Deliver, GiveUp, Publish, PassClear, WaitForKey, Settle}
use Rattle.eme_types.specs.declared.call.Event.TheVariants.{WaitingForKey}
use Rattle.eme_types.specs.Fed.{are_distinct}
use Rattle.task_queue.specs.declared.work.Task.TheVariants.{Fire}
use Rattle.cdm_world.specs.In.{In}
use Rattle.cdm_world.specs.Tracks.{TrackState, find_track, change_track, one_more, set_waiting, head}
use Rattle.key_sessions.specs.Machine.{Machine}
use Rattle.key_sessions.specs.Keys.{held_key, pick}
use Rattle.key_sessions.specs.Jobs.{take_job}
use Rattle.key_sessions.specs.Tasks.{take_task}
use Rattle.key_sessions.specs.World.{World, resumes}
use Rattle.key_claims.specs.TracksState.{ClaimState}
use Rattle.key_claims.specs.Claims.{claimed_in}
use Rattle.cdm_state.specs.After.{after_entry}
use Rattle.cdm_state.specs.Slots.{entry_of, holds_still}
use Rattle.cdm_state.specs.History.{world, IsAt, IsLegal, Allowed, IsOn, LiveAs, LiveOn, MayClaim, MayPublish, MayPassClear, MayWait}
use Rattle.cdm_state.specs.Output.{fed_at, fed_sample}
use Rattle.cdm_state.specs.Progress.{NoneWaits}
use Rattle.cdm_state.specs.Run.{Run}
use Rattle.cdm_state.proofs.Histories.{world_more, legal_front, allowed_next}
use Rattle.cdm_state.proofs.Live.{SameKeys, live_now, same_held, is_key_same}
use Rattle.cdm_state.proofs.FedOn.{claimed_fed}
use Rattle.cdm_state.proofs.Claiming.{pick_holds}
use Rattle.cdm_state.proofs.TrackIds.{state_id, world_ids, or_right}
use Rattle.cdm_state.proofs.TrackLists.{same_yes}
use Rattle.output_order.proofs.Sizes.{something_at, some_same}
use Rattle.play_parts.specs.Asks.{IsStep}
use Rattle.player_core.specs.Course.{Moves}
use Rattle.player_core.specs.Left.{ends_claim, claim_under, stays, claims_after, live_claims, queue_weight, awake_weight, samples_left, many_left, weigh, sample_weight, left_with, work_left}
use Rattle.player_core.proofs.LiveClaims.{claims_more, all_live, OnSample, unclaimed, claimed_kept}
use Rattle.player_core.proofs.Queued.{job_falls, woken, task_falls, event_queued}
use Rattle.player_core.proofs.Weights.{weigh_less, weigh_fewer, samples_within, left_next, tracks_fall, tracks_woken, samples_stay, queued_lowers, samples_lower}

world_many : (ids : List ℕ) (h : List Entry) → length (world ids h).tracks ≡ length ids
world_many ids h = sym (length-map (world ids h).tracks state_id) ∙ ap length (world_ids ids h)

-- what is left one entry on
abbrev AfterLeft : List ℕ → List Entry → Entry → ℕ
AfterLeft ids h e = left_with (length ids) (after_entry (world ids h) e) (claims_after (after_entry (world ids h) e) (length h + 1) e (live_claims ids h))

left_more : (ids : List ℕ) (h : List Entry) (e : Entry) → work_left ids (h ++ e ∷ []) ≡ AfterLeft ids h e
unfolding work_left
left_more ids h e =
    ap (λ claims. left_with (length ids) (world ids (h ++ e ∷ [])) claims) (claims_more ids h e)
    ∙ ap (λ (w : World). left_with (length ids) w (claims_after w (length h + 1) e (live_claims ids h))) (world_more ids h e)

-- an entry that moves no key lets a claim live on
holds : (ids : List ℕ) (h : List Entry) (e : Entry) (c : ClaimState) → IsLegal ids h → SameKeys (world ids h).machine (after_entry (world ids h) e).machine → In (live_claims ids h) c → holds_still (after_entry (world ids h) e).machine c ≡ true
holds ids h e c legal same at =
    let m : Machine = (after_entry (world ids h) e).machine in
    is_key_same (held_key m c.session c.kid) c.key (same_held (world ids h).machine m c.session c.kid same ∙ live_now ids h c.place (entry_of c) c.key (all_live ids h legal c at))

-- the claims on a sample that such an entry does not end stay
still_claimed : (ids : List ℕ) (h : List Entry) (e : Entry) (more : List ClaimState) (track index : ℕ) → IsLegal ids h → SameKeys (world ids h).machine (after_entry (world ids h) e).machine → ((c : ClaimState) → In (live_claims ids h) c → OnSample c track index → ends_claim c.place e ≡ false) → claimed_in (live_claims ids h) track index ≡ true → claimed_in (filter (stays (after_entry (world ids h) e) e) (live_claims ids h) ++ more) track index ≡ true
still_claimed ids h e more track index legal same unended is =
    claimed_kept (stays (after_entry (world ids h) e) e) (live_claims ids h) more track index (λ c at on. rw (holds ids h e c legal same at, unended c at on) refl) is

alike : (m : Machine) → SameKeys m m
alike m = record { sessions = refl; moment = refl }

job_lowers : (ids : List ℕ) (h : List Entry) → Allowed ids h Job → AfterLeft ids h Job + 1 ≤ left_with (length ids) (world ids h) (live_claims ids h)
job_lowers ids h may =
    let w : World = world ids h in
    let many : ℕ = length ids in
    let claims : List ClaimState = claims_after (after_entry w Job) (length h + 1) Job (live_claims ids h) in
    let falls = job_falls many w.machine.jobs w.machine refl may in
    let awake : ℕ = sum_by awake_weight w.tracks in
    queued_lowers (queue_weight many w.machine + awake) (queue_weight many (take_job w.machine.jobs w.machine) + awake) (sum_by many_left w.tracks) (sum_by many_left w.tracks) (sum_by (sample_weight (live_claims ids h)) w.tracks) (sum_by (sample_weight claims) w.tracks) (omega (arith, falls)) refl (samples_within claims w.tracks)

task_lowers : (ids : List ℕ) (h : List Entry) → Allowed ids h Task → AfterLeft ids h Task + 1 ≤ left_with (length ids) (world ids h) (live_claims ids h)
task_lowers ids h may =
    let w : World = world ids h in
    let many : ℕ = length ids in
    let after : World = after_entry w Task in
    let claims : List ClaimState = claims_after after (length h + 1) Task (live_claims ids h) in
    let falls = task_falls many w.machine.tasks w.machine refl may in
    let wakes : sum_by awake_weight after.tracks ≤ sum_by awake_weight w.tracks + woken many (resumes w.machine.tasks) = subst (λ n. sum_by awake_weight after.tracks ≤ sum_by awake_weight w.tracks + woken n (resumes w.machine.tasks)) (world_many ids h) (tracks_woken (resumes w.machine.tasks) (pick w.machine) w.tracks) in
    queued_lowers (queue_weight many w.machine + sum_by awake_weight w.tracks) (queue_weight many (take_task w.machine.tasks w.machine).machine + sum_by awake_weight after.tracks) (sum_by many_left w.tracks) (sum_by many_left after.tracks) (sum_by (sample_weight (live_claims ids h)) w.tracks) (sum_by (sample_weight claims) after.tracks) (omega (arith, falls, wakes)) (samples_stay (resumes w.machine.tasks) (pick w.machine) w.tracks) (samples_within claims after.tracks)

distinct_states : (ids : List ℕ) (h : List Entry) → IsTrue (are_distinct ids) → are_distinct (map state_id (world ids h).tracks) ≡ true
distinct_states ids h distinct = ap are_distinct (world_ids ids h) ∙ distinct

found_id : (ts : List TrackState) (id : ℕ) (t : TrackState) → find_track ts id ≡ Some t → t.id ≡ id
found_id [] id t at = absurd cc
found_id (u ∷ us) id t at = elim (eqb_tells u.id id) [
  | inl p ↦ ap (λ (v : TrackState). v.id) (sym (some_same (rw p.0 at at))) ∙ p.1
  | inr p ↦ found_id us id t (rw p.0 at at)
]

unchanged : (ts : List TrackState) (id : ℕ) → change_track ts id (λ t. t) ≡ ts
unchanged [] id = refl
unchanged (t ∷ ts) id = elim (eqb_tells t.id id) [ inl p ↦ rw p.0 refl | inr p ↦ rw p.0 (ap (λ us. t ∷ us) (unchanged ts id)) ]

claimed_last : (cs : List ClaimState) (track index place worker session : ℕ) (kid : List ℕ) (key : KeyBytes) → claimed_in (cs ++ claim_under place worker track index session kid (Some key)) track index ≡ true
claimed_last [] track index place worker session kid key = rw (same_yes track track refl, same_yes index index refl) refl
claimed_last (c ∷ cs) track index place worker session kid key = rw (claimed_last cs track index place worker session kid key) (or_right (eqb c.track track && eqb c.index index))

-- one sample of a track is out: the claims on the samples that are left were kept
out_lowers : (ids : List ℕ) (h : List Entry) (e : Entry) (track : ℕ) (s : TrackState) (x : EncSample) (claims : List ClaimState) → IsTrue (are_distinct ids) → find_track (world ids h).tracks track ≡ Some s → head s ≡ Some x → ((other index : ℕ) → ((other ≡ track) × (index ≡ s.published) → ⊥) → claimed_in (live_claims ids h) other index ≡ true → claimed_in claims other index ≡ true) → left_with (length ids) (record (world ids h) { tracks = change_track (world ids h).tracks track one_more }) claims + 1 ≤ left_with (length ids) (world ids h) (live_claims ids h)
out_lowers ids h e track s x claims distinct known first keeps =
    let w : World = world ids h in
    let old : List ClaimState = live_claims ids h in
    let apart = distinct_states ids h distinct in
    let same_id : s.id ≡ track = found_id w.tracks track s known in
    let next : samples_left s ≡ x ∷ samples_left (one_more s) = left_next s x first in
    let rest : weigh (claimed_in claims s.id) (s.published + 1) (samples_left (one_more s)) ≤ weigh (claimed_in old s.id) (s.published + 1) (samples_left (one_more s)) = weigh_less (claimed_in old s.id) (claimed_in claims s.id) (s.published + 1) (samples_left (one_more s)) (λ j le is. keeps s.id j (λ both. (let same = both.1 in omega (arith, le, same))) is) in
    let least = least_weight (claimed_in old s.id s.published) in
    let here : sample_weight claims (one_more s) + 1 ≤ sample_weight old s = subst (λ xs. weigh (claimed_in claims s.id) (s.published + 1) (samples_left (one_more s)) + 1 ≤ weigh (claimed_in old s.id) s.published xs) (sym next) (omega (arith, rest, least)) in
    let fewer : many_left (one_more s) + 0 ≤ many_left s = (let many = ap length next in omega (arith, many)) in
    let samples = tracks_fall (sample_weight old) (sample_weight claims) 1 one_more track s w.tracks apart (λ t other. weigh_less (claimed_in old t.id) (claimed_in claims t.id) t.published (samples_left t) (λ j le is. keeps t.id j (λ both. other both.0) is)) known here in
    let left = tracks_fall many_left many_left 0 one_more track s w.tracks apart (λ t other. omega arith) known fewer in
    let awake = tracks_fall awake_weight awake_weight 0 one_more track s w.tracks apart (λ t other. omega arith) known (omega arith) in
    samples_lower (queue_weight (length ids) w.machine + sum_by awake_weight w.tracks) (queue_weight (length ids) w.machine + sum_by awake_weight (change_track w.tracks track one_more)) (sum_by many_left w.tracks) (sum_by many_left (change_track w.tracks track one_more)) (sum_by (sample_weight old) w.tracks) (sum_by (sample_weight claims) (change_track w.tracks track one_more)) (omega (arith, awake)) (omega (arith, left)) samples
  where
    least_weight : (b : Bool) → 1 ≤ (if b then 1 else 2)
    least_weight true = omega arith
    least_weight false = omega arith

-- a claim is on a sample that was fed
on_fed : (ids : List ℕ) (h : List Entry) (place : ℕ) (e : Entry) (track index : ℕ) → IsLegal ids h → IsAt h place e → IsOn e track index → (x : EncSample) × (fed_sample (world ids h) track index ≡ Some x)
on_fed ids h place (Claim worker t i session kid) track index legal at on =
    let r = claimed_fed ids h place worker t i session kid legal at in
    (r.0, ap (λ n. fed_sample (world ids h) n index) (sym on.0) ∙ (ap (λ n. fed_sample (world ids h) t n) (sym on.1) ∙ r.1))
on_fed ids h place _ track index legal at on = absurd on

-- a claim at the place of a publication is on its sample
ends_its : (ids : List ℕ) (h : List Entry) (track index place : ℕ) (c : ClaimState) → LiveAs ids h c.place (entry_of c) c.key → LiveOn ids h place track index → (OnSample c track index → ⊥) → ends_claim c.place (Publish track index place) ≡ false
ends_its ids h track index place c live on other = elim (eqb_tells place c.place) [
  | inl p ↦ (
      let claim : on.claim ≡ entry_of c = some_same (sym on.live.at.1 ∙ (ap (λ n. slice_get h (n - 1)) p.1 ∙ live.at.1)) in
      absurd (other (subst (λ (e : Entry). IsOn e track index) claim on.on)))
  | inr p ↦ p.0
]

publish_lowers : (ids : List ℕ) (h : List Entry) (track index place : ℕ) → IsTrue (are_distinct ids) → IsLegal ids h → MayPublish ids h track index place → AfterLeft ids h (Publish track index place) + 1 ≤ left_with (length ids) (world ids h) (live_claims ids h)
publish_lowers ids h track index place distinct legal may =
    let e : Entry = Publish track index place in
    let x = on_fed ids h place may.live.claim track index legal may.live.live.at may.live.on in
    let first : head may.state ≡ Some x.0 = ap (λ n. slice_get may.state.fed n) (sym may.next) ∙ (sym (ap (λ t. fed_at t index) may.known) ∙ x.1) in
    out_lowers ids h e track may.state x.0 (claims_after (after_entry (world ids h) e) (length h + 1) e (live_claims ids h)) distinct may.known first (λ other at apart is.
    still_claimed ids h e [] other at legal (alike (world ids h).machine) (λ c there on. ends_its ids h track index place c (all_live ids h legal c there) may.live (λ both. apart (sym on.0 ∙ both.0, sym on.1 ∙ (both.1 ∙ may.next)))) is)

pass_lowers : (ids : List ℕ) (h : List Entry) (track index : ℕ) → IsTrue (are_distinct ids) → IsLegal ids h → MayPassClear ids h track index → AfterLeft ids h (PassClear track index) + 1 ≤ left_with (length ids) (world ids h) (live_claims ids h)
pass_lowers ids h track index distinct legal may =
    out_lowers ids h (PassClear track index) track may.state may.sample (claims_after (after_entry (world ids h) (PassClear track index)) (length h + 1) (PassClear track index) (live_claims ids h)) distinct may.known may.fed (λ other at apart is. still_claimed ids h (PassClear track index) [] other at legal (alike (world ids h).machine) (λ c there on. refl) is)

wait_lowers : (ids : List ℕ) (h : List Entry) (track : ℕ) → IsTrue (are_distinct ids) → MayWait ids h track → AfterLeft ids h (WaitForKey track) + 1 ≤ left_with (length ids) (world ids h) (live_claims ids h)
wait_lowers ids h track distinct may =
    let w : World = world ids h in
    let after : World = after_entry w (WaitForKey track) in
    let claims : List ClaimState = claims_after after (length h + 1) (WaitForKey track) (live_claims ids h) in
    let apart = distinct_states ids h distinct in
    let awake_now : awake_weight (set_waiting may.state) + 2 ≤ awake_weight may.state = rw may.awake (omega arith) in
    let awake = tracks_fall awake_weight awake_weight 2 set_waiting track may.state w.tracks apart (λ t other. omega arith) may.known awake_now in
    let queued = event_queued (length ids) w.machine (Fire (WaitingForKey track)) refl in
    let left = change_same many_left w.tracks track set_waiting (λ t. refl) in
    queued_lowers (queue_weight (length ids) w.machine + sum_by awake_weight w.tracks) (queue_weight (length ids) after.machine + sum_by awake_weight after.tracks) (sum_by many_left w.tracks) (sum_by many_left after.tracks) (sum_by (sample_weight (live_claims ids h)) w.tracks) (sum_by (sample_weight claims) after.tracks) (omega (arith, awake, queued)) left (samples_within claims after.tracks)
  where
    change_same : (f : TrackState → ℕ) (ts : List TrackState) (id : ℕ) (change : TrackState → TrackState) → ((t : TrackState) → f (change t) ≡ f t) → sum_by f (change_track ts id change) ≡ sum_by f ts
    change_same f [] id change same = refl
    change_same f (t ∷ ts) id change same = elim (eqb_tells t.id id) [
      | inl p ↦ (let here = same t in let a = sum_by-cons f (change t) ts in let b = sum_by-cons f t ts in rw p.0 (omega (arith, here, a, b)))
      | inr p ↦ (let rest = change_same f ts id change same in let a = sum_by-cons f t (change_track ts id change) in let b = sum_by-cons f t ts in rw p.0 (omega (arith, rest, a, b)))
    ]

claim_lowers : (ids : List ℕ) (h : List Entry) (worker track index session : ℕ) (kid : List ℕ) → IsTrue (are_distinct ids) → IsLegal ids h → MayClaim ids h track index session kid → AfterLeft ids h (Claim worker track index session kid) + 1 ≤ left_with (length ids) (world ids h) (live_claims ids h)
claim_lowers ids h worker track index session kid distinct legal may =
    let w : World = world ids h in
    let e : Entry = Claim worker track index session kid in
    let old : List ClaimState = live_claims ids h in
    let claims : List ClaimState = claims_after w (length h + 1) e old in
    let s : TrackState = may.state in
    let same_id : s.id ≡ track = found_id w.tracks track s may.known in
    let keeps : (other at : ℕ) → claimed_in old other at ≡ true → claimed_in claims other at ≡ true = λ other at is. still_claimed ids h e (claim_under (length h + 1) worker track index session kid (held_key w.machine session kid)) other at legal (alike w.machine) (λ c there on. refl) is in
    let was : claimed_in old s.id index ≡ false = rw same_id (unclaimed old track index (λ c at on. may.free c.place (record { claim = entry_of c; key = c.key; live = all_live ids h legal c at; on = on }))) in
    let held : held_key w.machine session kid ≡ Some may.key = pick_holds w.machine kid session may.key may.picked in
    let now : claimed_in claims s.id index ≡ true = rw (same_id, held) (claimed_last (filter (stays w e) old) track index (length h + 1) worker session kid may.key) in
    let within : index < length s.fed = something_at s.fed index may.sample may.fed in
    let few : index < s.published + length (samples_left s) = (let many = length-drop s.published s.fed in omega (arith, within, many)) in
    let here : sample_weight claims s + 1 ≤ sample_weight old s = weigh_fewer (claimed_in old s.id) (claimed_in claims s.id) s.published index (samples_left s) (λ j le is. keeps s.id j is) may.from few was now in
    let falls = tracks_fall (sample_weight old) (sample_weight claims) 1 (λ t. t) track s w.tracks (distinct_states ids h distinct) (λ t other. weigh_less (claimed_in old t.id) (claimed_in claims t.id) t.published (samples_left t) (λ j le is. keeps t.id j is)) may.known here in
    let same = ap (sum_by (sample_weight claims)) (unchanged w.tracks track) in
    omega (arith, falls, same)

deliver_keeps : (ids : List ℕ) (h : List Entry) (place : ℕ) (verdict : Verdict) → IsLegal ids h → AfterLeft ids h (Deliver place verdict) ≤ left_with (length ids) (world ids h) (live_claims ids h)
deliver_keeps ids h place verdict legal =
    let w : World = world ids h in
    let e : Entry = Deliver place verdict in
    let old : List ClaimState = live_claims ids h in
    let claims : List ClaimState = claims_after w (length h + 1) e old in
    let less = sum_by-le-sum_by (sample_weight claims) (sample_weight old) w.tracks (λ t. weigh_less (claimed_in old t.id) (claimed_in claims t.id) t.published (samples_left t) (λ j le is. still_claimed ids h e [] t.id j legal (alike w.machine) (λ c there on. refl) is)) in
    omega (arith, less)

-- the steps but for deliveries, each of which comes with its claim
abbrev pub moves : Entry → ℕ
moves (Deliver place verdict) = 0
moves _ = 1

step_lowers : (ids : List ℕ) (h : List Entry) (e : Entry) → IsTrue (are_distinct ids) → IsLegal ids h → Allowed ids h e → IsStep e → AfterLeft ids h e + moves e ≤ left_with (length ids) (world ids h) (live_claims ids h)
step_lowers ids h (Call lane line call) distinct legal may step = absurd step
step_lowers ids h Job distinct legal may step = job_lowers ids h may
step_lowers ids h Task distinct legal may step = task_lowers ids h may
step_lowers ids h (Tick line moment) distinct legal may step = absurd step
step_lowers ids h (Feed line fragment) distinct legal may step = absurd step
step_lowers ids h (Evict line label) distinct legal may step = absurd step
step_lowers ids h (Claim worker track index session kid) distinct legal may step = claim_lowers ids h worker track index session kid distinct legal may
step_lowers ids h (Deliver place verdict) distinct legal may step = let keeps = deliver_keeps ids h place verdict legal in omega (arith, keeps)
step_lowers ids h (GiveUp place) distinct legal may step = absurd step
step_lowers ids h (Publish track index place) distinct legal may step = publish_lowers ids h track index place distinct legal may
step_lowers ids h (PassClear track index) distinct legal may step = pass_lowers ids h track index distinct legal may
step_lowers ids h (WaitForKey track) distinct legal may step = wait_lowers ids h track distinct may
step_lowers ids h (Settle line) distinct legal may step = absurd step

steps_lower : (ids : List ℕ) (h es : List Entry) → IsTrue (are_distinct ids) → AllByRecursion IsStep es → IsLegal ids (h ++ es) → work_left ids (h ++ es) + sum_by moves es ≤ work_left ids h
unfolding work_left
steps_lower ids h [] distinct steps legal = let same : work_left ids (h ++ []) ≡ work_left ids h = ap (work_left ids) (append-nil h) in omega (arith, same)
steps_lower ids h (e ∷ es) distinct steps legal =
    let seam : (h ++ e ∷ []) ++ es ≡ h ++ e ∷ es = append_assoc h (e ∷ []) es in
    let here = step_lowers ids h e distinct (legal_front ids h (e ∷ es) legal) (allowed_next ids h e es legal) steps.0 in
    let more = left_more ids h e in
    let rest = steps_lower ids (h ++ e ∷ []) es distinct steps.1 (subst (λ g. IsLegal ids g) (sym seam) legal) in
    let same : work_left ids ((h ++ e ∷ []) ++ es) ≡ work_left ids (h ++ e ∷ es) = ap (work_left ids) seam in
    let all = sum_by-cons moves e es in
    omega (arith, here, more, rest, same, all)

-- steps that begin with no claim in hand lower what is left
pub moved_lowers : (ids : List ℕ) (h es : List Entry) → IsTrue (are_distinct ids) → NoneWaits h → AllByRecursion IsStep es → IsLegal ids (h ++ es) → (es ≡ [] → ⊥) → work_left ids (h ++ es) < work_left ids h
moved_lowers ids h [] distinct none steps legal some = absurd (some refl)
moved_lowers ids h (e ∷ es) distinct none steps legal some =
    let falls = steps_lower ids h (e ∷ es) distinct steps legal in
    let all = sum_by-cons moves e es in
    let one : moves e ≡ 1 = first e (allowed_next ids h e es legal) steps.0 in
    omega (arith, falls, all, one)
  where
    first : (x : Entry) → Allowed ids h x → IsStep x → moves x ≡ 1
    first (Deliver place verdict) may step = absurd (none place may.0)
    first _ may step = refl

-- and so does a turn
pub turn_lowers : (old new : Run) → IsTrue (are_distinct old.tracks) → NoneWaits old.history → IsLegal new.tracks new.history → Moves old new → work_left new.tracks new.history < work_left old.tracks old.history
turn_lowers old new distinct none legal moved =
    let es : List Entry = moved.0.taken in
    let lengths : length new.history ≡ length (old.history ++ es) = ap (λ (r : Run). length r.history) moved.0.is in
    let some : es ≡ [] → ⊥ = λ empty. (let same : length (old.history ++ es) ≡ length old.history = ap (λ xs. length (old.history ++ xs)) empty ∙ ap length (append-nil old.history) in let more = moved.1 in absurd (omega (arith, lengths, same, more))) in
    subst (λ (r : Run). work_left r.tracks r.history < work_left old.tracks old.history) (sym moved.0.is) (moved_lowers old.tracks old.history es distinct none moved.0.steps (subst (λ (r : Run). IsLegal r.tracks r.history) moved.0.is legal) some)

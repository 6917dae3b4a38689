-- At rest there is nothing to do, and what ends a claim leaves it at rest.
use Rattle.std.proofs.Common.{zero, suc, ◌≡◌, ℕ, ◌≤◌, Bool, true, false, List, [], ◌∷◌, Option, Some, None, refl, ap, sym, subst, ◌∙◌, arith, true≢false, eqb}
use Rattle.std.specs.Prelude.{slice_get, if◌then◌else◌, All}
use Rattle.std.specs.List.{fold}
use Rattle.std.proofs.lemmas.List.Sums.{fold-append}
use Rattle.eme_types.specs.declared.sample.EncSample.{EncSample}
use Rattle.eme_types.specs.declared.entry.Entry.{Entry}
use Rattle.eme_types.specs.declared.entry.Entry.TheVariants.{Call, Job, Task, Tick, Feed, Evict, Claim, Deliver, GiveUp, Publish, PassClear, WaitForKey, Settle}
use Rattle.key_sessions.specs.Keys.{pick}
use Rattle.key_sessions.specs.World.{World, empty_world}
use Rattle.cdm_world.specs.Tracks.{TrackState, head, find_track, Unpicked, HeadAtRest, TrackAtRest}
use Rattle.cdm_state.specs.After.{after_entry}
use Rattle.cdm_state.specs.Output.{fed_at}
use Rattle.cdm_state.specs.History.{world, IsLegal, AtRest, LiveOn, Spends, MayClaim, MayPublish, MayPassClear, MayWait}
use Rattle.cdm_state.specs.Progress.{RestIsQuiet, RestStays, SpendClaims}
use Rattle.cdm_state.proofs.Resuming.{waits_only}
use Rattle.cdm_state.proofs.OfSamples.{live_of_sample}
use Rattle.cdm_state.proofs.Plain.{some_alone}

-- where all tracks are so, the one that an id finds is
pub all_found : (P : TrackState → Type 0) (ts : List TrackState) (id : ℕ) (t : TrackState) → All P ts → find_track ts id ≡ Some t → P t
all_found P [] id t all found = absurd cc
all_found P (s ∷ ts) id t all found = go (eqb s.id id) found (all_found P ts id t (λ k d lt. all (suc k) d (omega (arith, lt)))) where
  go : (b : Bool) → (if b then Some s else find_track ts id) ≡ Some t → (find_track ts id ≡ Some t → P t) → P t
  go true e rest = subst P (some_alone s t e) (all zero s (omega arith))
  go false e rest = rest e

-- behind the end of a list nothing stands
none_behind : (xs : List EncSample) (n i : ℕ) (x : EncSample) → n ≤ i → slice_get xs n ≡ None → slice_get xs i ≡ Some x → ⊥
none_behind [] n i x le none at = absurd cc
none_behind (y ∷ xs) zero i x le none at = absurd cc
none_behind (y ∷ xs) (suc n) zero x le none at = absurd (omega (arith, le))
none_behind (y ∷ xs) (suc n) (suc i) x le none at = none_behind xs n i x (omega (arith, le)) none at

module _ (ids : List ℕ) (h : List Entry) (legal : IsLegal ids h) (rest : AtRest (world ids h)) where
  rests : (track : ℕ) (t : TrackState) → find_track (world ids h).tracks track ≡ Some t → TrackAtRest (pick (world ids h).machine) t
  rests track t known = all_found (TrackAtRest (pick (world ids h).machine)) (world ids h).tracks track t rest.tracks known

  -- a head of a track at rest
  head_rests : (track : ℕ) (t : TrackState) (x : EncSample) → find_track (world ids h).tracks track ≡ Some t → head t ≡ Some x → HeadAtRest (pick (world ids h).machine) t (Some x)
  head_rests track t x known fed = subst (HeadAtRest (pick (world ids h).machine) t) fed (rests track t known)

  no_publication : (track index place : ℕ) → MayPublish ids h track index place → ⊥
  no_publication track index place may =
      let t = may.state in
      let live : LiveOn ids h place track t.published = subst (λ (i : ℕ). LiveOn ids h place track i) may.next may.live in
      let o = live_of_sample ids h place track t.published legal live in
      let fed : head t ≡ Some o.sample = sym (ap (λ (u : Option TrackState). fed_at u t.published) may.known) ∙ o.fed in
      let waits = head_rests track t o.sample may.known fed in
      (waits_only ids h track t legal may.known waits.0).free place live

  no_clear_sample : (track index : ℕ) → MayPassClear ids h track index → ⊥
  no_clear_sample track index may = subst (Unpicked (pick (world ids h).machine)) may.clear (head_rests track may.state may.sample may.known may.fed).1

  awake_rests : (t : TrackState) (index : ℕ) (x : EncSample) (o : Option EncSample) → t.published ≤ index → slice_get t.fed index ≡ Some x → t.waiting ≡ false → head t ≡ o → HeadAtRest (pick (world ids h).machine) t o → ⊥
  awake_rests t index x None le fed awake none r = none_behind t.fed t.published index x le none fed
  awake_rests t index x (Some y) le fed awake some r = true≢false (sym r.0 ∙ awake)

  no_claim : (track index session : ℕ) (kid : List ℕ) → MayClaim ids h track index session kid → ⊥
  no_claim track index session kid may = awake_rests may.state index may.sample (head may.state) may.from may.fed may.awake refl (rests track may.state may.known)

  no_wait : (track : ℕ) → MayWait ids h track → ⊥
  no_wait track may = true≢false (sym (head_rests track may.state may.sample may.known may.fed).0 ∙ may.awake)

pub rest_is_quiet : RestIsQuiet
rest_is_quiet ids h legal rest = record {
  jobs = rest.jobs;
  tasks = rest.tasks;
  publish = no_publication ids h legal rest;
  pass = no_clear_sample ids h legal rest;
  claim = no_claim ids h legal rest;
  wait = no_wait ids h legal rest;
}

spent : (w : World) (e : Entry) (place : ℕ) → Spends e place → after_entry w e ≡ w
spent w (Call lane line call) place s = absurd s
spent w Job place s = absurd s
spent w Task place s = absurd s
spent w (Tick line moment) place s = absurd s
spent w (Feed line fragment) place s = absurd s
spent w (Evict line label) place s = absurd s
spent w (Claim worker track index session kid) place s = absurd s
spent w (Deliver p verdict) place s = refl
spent w (GiveUp p) place s = refl
spent w (Publish track index p) place s = absurd s
spent w (PassClear track index) place s = absurd s
spent w (WaitForKey track) place s = absurd s
spent w (Settle line) place s = absurd s

all_spent : (w : World) (es : List Entry) → SpendClaims es → fold after_entry w es ≡ w
all_spent w [] s = refl
all_spent w (e ∷ es) s = (let p = s zero e refl in ap (λ (v : World). fold after_entry v es) (spent w e p.0 p.1) ∙ all_spent w es (λ n x at. s (suc n) x at))

pub rest_stays : RestStays
unfolding world
rest_stays ids h es rest s = subst AtRest (sym (fold-append after_entry (empty_world ids) h es ∙ all_spent (fold after_entry (empty_world ids) h) es s)) rest

-- What the core keeps, after each of its calls.
use Rattle.std.proofs.Common.{◌≡◌, ℕ, ◌+◌, ◌-◌, true, IsTrue, List, [], ◌∷◌, ◌++◌, length, get_or, Option, Some, None, refl, ap, sym, subst, ◌∙◌, map, take, append-nil}
use Rattle.std.specs.Prelude.{filter}
use Rattle.eme_types.specs.Fed.{are_distinct}
use Rattle.eme_types.specs.declared.call.Effect.{Effect}
use Rattle.eme_types.specs.declared.call.Event.TheVariants.{WaitingForKey}
use Rattle.eme_types.specs.declared.media.Fragment.{Fragment}
use Rattle.eme_types.specs.declared.entry.Entry.{Entry}
use Rattle.eme_types.specs.declared.entry.Entry.TheVariants.{Feed, Claim, GiveUp, Publish, PassClear, WaitForKey, Settle}
use Rattle.key_claims.specs.TracksState.{FedTrack, ClaimState, track_of}
use Rattle.task_queue.specs.declared.work.Task.{Task as Queued}
use Rattle.task_queue.specs.declared.work.Task.TheVariants.{Fire}
use Rattle.key_sessions.specs.Machine.{Machine, empty_machine}
use Rattle.key_sessions.specs.Steps.{queue_task}
use Rattle.key_sessions.specs.Keys.{pick, held_key}
use Rattle.cdm_world.specs.Tracks.{TrackState, change_track, empty_track, find_track, one_more, set_waiting, feed_parts}
use Rattle.key_sessions.specs.World.{World}
use Rattle.cdm_state.specs.After.{fire_encrypted}
use Rattle.key_claims.specs.Claims.{is_other}
use Rattle.key_claims.specs.declared.choice.Work.{Work}
use Rattle.cdm_state.proofs.Copied.{Copied, IsCopied}
use Rattle.key_claims.specs.Changes.{changed_at, more_out, with_waiting}
use Rattle.key_claims.specs.Choice.{IsWork, IsFirst, IsReady, has_clear_head, is_unkeyed}
use Rattle.cdm_state.specs.Settlements.{effects_in}
use Rattle.cdm_state.specs.Feeds.{parts_in, inits_in}
use Rattle.cdm_state.specs.Claims.{LegalKept}
use Rattle.cdm_state.specs.Kept.{world_of}
use Rattle.cdm_state.specs.History.{world, IsLegal, Undelivered, MayFeedNext, MayClaim, MayPublish, MayPassClear, MayWait, AtRest}
use Rattle.cdm_state.proofs.TrackLists.{changed_state, out_state}
use Rattle.cdm_state.proofs.Legal.{legal_left, legal_ended, legal_claimed}
use Rattle.cdm_state.proofs.Claiming.{pick_holds}
use Rattle.cdm_state.proofs.May.{may_claim, may_publish, may_pass, may_wait, claim_picked, stands_at}
use Rattle.cdm_state.proofs.Plain.{nothing_there}

-- a new core
pub legal_new : (ids : List ℕ) (h : List Entry) (did : List (List Effect)) (m : Machine) (ts : List FedTrack) (claims : List ClaimState) → h ≡ [] → did ≡ [] → m ≡ empty_machine → map track_of ts ≡ map empty_track ids → claims ≡ [] → LegalKept ids h did (world_of m ts) claims
unfolding world IsLegal effects_in
legal_new ids h did m ts claims none nothing empty states unclaimed = rw (none, nothing, unclaimed) (record {
  legal = λ n e at. absurd (nothing_there n e at);
  state = ap (λ (k : Machine). let w : World = record { machine = k; tracks = map track_of ts } in w) empty ∙ ap (λ (xs : List TrackState). let w : World = record { machine = empty_machine; tracks = xs } in w) states;
  effects = refl;
  claims = record { live = λ s there. absurd there; all = λ place live. absurd (nothing_there (place - 1) live.0 live.2.at.1); clear = λ s there. absurd there; once = tt };
})

pub legal_settle : (ids : List ℕ) (h g : List Entry) (did more : List (List Effect)) (fx : List Effect) (line : ℕ) (m : Machine) (ts : List FedTrack) (claims : List ClaimState) → LegalKept ids h did (world_of m ts) claims → AtRest (world_of m ts) → g ≡ h ++ Settle line ∷ [] → fx ≡ [] → more ≡ did ++ fx ∷ [] → LegalKept ids g more (world_of m ts) claims
legal_settle ids h g did more fx line m ts claims kept rest is fxs moreis =
    legal_left ids h g (Settle line) did more fx (world_of m ts) (world_of m ts) claims kept (subst AtRest kept.state rest) (record { plain = λ w t i n k x. cc; ends = λ p x. x; spends = λ s there x. x }) (record { sessions = refl; moment = refl }) is refl fxs moreis

pub legal_give_up : (ids : List ℕ) (h g : List Entry) (did more : List (List Effect)) (fx : List Effect) (place : ℕ) (m : Machine) (ts : List FedTrack) (claims new : List ClaimState) → LegalKept ids h did (world_of m ts) claims → Undelivered h place → g ≡ h ++ GiveUp place ∷ [] → fx ≡ [] → more ≡ did ++ fx ∷ [] → new ≡ filter (is_other place) claims → LegalKept ids g more (world_of m ts) new
legal_give_up ids h g did more fx place m ts claims new kept waits is fxs moreis less =
    legal_ended ids h g (GiveUp place) place did more fx (world_of m ts) (world_of m ts) claims new kept waits (record { plain = λ w t i n k x. cc; this = refl; ends = λ p x. x; spends = λ p x. x }) (record { sessions = refl; moment = refl }) is refl fxs moreis less

pub legal_publish : (ids : List ℕ) (h g : List Entry) (did more : List (List Effect)) (fx : List Effect) (track index place at : ℕ) (m : Machine) (ts us : List FedTrack) (claims new : List ClaimState) → LegalKept ids h did (world_of m ts) claims → MayPublish ids h track index place → g ≡ h ++ Publish track index place ∷ [] → map track_of us ≡ change_track (map track_of ts) track one_more → fx ≡ [] → more ≡ did ++ fx ∷ [] → new ≡ filter (is_other place) claims → LegalKept ids g more (world_of m us) new
legal_publish ids h g did more fx track index place at m ts us claims new kept may is moved fxs moreis less =
    legal_ended ids h g (Publish track index place) place did more fx (world_of m ts) (world_of m us) claims new kept may (record { plain = λ w t i n k x. cc; this = refl; ends = λ p x. x; spends = λ p x. absurd x }) (record { sessions = refl; moment = refl }) is (ap (λ (xs : List TrackState). let v : World = record { machine = m; tracks = xs } in v) moved) fxs moreis less

pub legal_pass : (ids : List ℕ) (h g : List Entry) (did more : List (List Effect)) (fx : List Effect) (track index : ℕ) (m : Machine) (ts us : List FedTrack) (claims : List ClaimState) → LegalKept ids h did (world_of m ts) claims → MayPassClear ids h track index → g ≡ h ++ PassClear track index ∷ [] → map track_of us ≡ change_track (map track_of ts) track one_more → fx ≡ [] → more ≡ did ++ fx ∷ [] → LegalKept ids g more (world_of m us) claims
legal_pass ids h g did more fx track index m ts us claims kept may is moved fxs moreis =
    legal_left ids h g (PassClear track index) did more fx (world_of m ts) (world_of m us) claims kept may (record { plain = λ w t i n k x. cc; ends = λ p x. x; spends = λ s there x. x }) (record { sessions = refl; moment = refl }) is (ap (λ (xs : List TrackState). let v : World = record { machine = m; tracks = xs } in v) moved) fxs moreis

pub legal_wait : (ids : List ℕ) (h g : List Entry) (did more : List (List Effect)) (fx : List Effect) (track : ℕ) (m n : Machine) (ts us : List FedTrack) (claims : List ClaimState) → LegalKept ids h did (world_of m ts) claims → MayWait ids h track → g ≡ h ++ WaitForKey track ∷ [] → n ≡ queue_task (Fire (WaitingForKey track)) m → map track_of us ≡ change_track (map track_of ts) track set_waiting → fx ≡ [] → more ≡ did ++ fx ∷ [] → LegalKept ids g more (world_of n us) claims
legal_wait ids h g did more fx track m n ts us claims kept may is queued moved fxs moreis =
    legal_left ids h g (WaitForKey track) did more fx (world_of m ts) (world_of n us) claims kept may (record { plain = λ w t i n k x. cc; ends = λ p x. x; spends = λ s there x. x }) (record { sessions = refl; moment = refl }) is (ap (λ (k : Machine). let v : World = record { machine = k; tracks = map track_of us } in v) queued ∙ ap (λ (xs : List TrackState). let v : World = record { machine = queue_task (Fire (WaitingForKey track)) m; tracks = xs } in v) moved) fxs moreis

pub legal_feed : (ids : List ℕ) (h g : List Entry) (did more : List (List Effect)) (fx : List Effect) (line : ℕ) (f : Option Fragment) (m n : Machine) (ts us : List FedTrack) (claims : List ClaimState) → LegalKept ids h did (world_of m ts) claims → MayFeedNext ids h f → g ≡ h ++ Feed line f ∷ [] → n ≡ record m { tasks = m.tasks ++ map fire_encrypted (inits_in f) } → map track_of us ≡ feed_parts (map track_of ts) (parts_in f) → fx ≡ [] → more ≡ did ++ fx ∷ [] → LegalKept ids g more (world_of n us) claims
legal_feed ids h g did more fx line None m n ts us claims kept may is queued moved fxs moreis =
    legal_left ids h g (Feed line None) did more fx (world_of m ts) (world_of n us) claims kept may (record { plain = λ w t i n k x. cc; ends = λ p x. x; spends = λ s there x. x }) (record { sessions = refl; moment = refl }) is (ap (λ (k : Machine). let v : World = record { machine = k; tracks = map track_of us } in v) (queued ∙ nothing_queued m) ∙ ap (λ (xs : List TrackState). let v : World = record { machine = m; tracks = xs } in v) moved) fxs moreis
  where
    nothing_queued : (m : Machine) → record m { tasks = m.tasks ++ [] } ≡ m
    nothing_queued m = ap (λ (ts : List Queued). let k : Machine = record m { tasks = ts } in k) (append-nil m.tasks)
legal_feed ids h g did more fx line (Some f) m n ts us claims kept may is queued moved fxs moreis =
    legal_left ids h g (Feed line (Some f)) did more fx (world_of m ts) (world_of n us) claims kept may (record { plain = λ w t i n k x. cc; ends = λ p x. x; spends = λ s there x. x }) (record { sessions = refl; moment = refl }) is (ap (λ (k : Machine). let v : World = record { machine = k; tracks = map track_of us } in v) queued ∙ ap (λ (xs : List TrackState). let v : World = record { machine = record m { tasks = m.tasks ++ map fire_encrypted f.inits }; tracks = xs } in v) moved) fxs moreis

pub legal_claim : (ids : List ℕ) (h g : List Entry) (did more : List (List Effect)) (fx : List Effect) (m : Machine) (ts : List FedTrack) (claims new : List ClaimState) (w : Work) (c : Copied) (s : ClaimState) (d : FedTrack) → LegalKept ids h did (world_of m ts) claims → IsTrue (are_distinct ids) → IsWork (pick m) claims ts w → IsCopied (get_or ts w.at d) w.index c → s.track ≡ (get_or ts w.at d).id → s.index ≡ w.index → s.session ≡ w.session → s.key ≡ w.key → s.kid ≡ c.kid → s.clear ≡ None → s.place ≡ length h + 1 → g ≡ h ++ Claim s.worker s.track s.index s.session c.kid ∷ [] → fx ≡ [] → more ≡ did ++ fx ∷ [] → new ≡ claims ++ s ∷ [] → LegalKept ids g more (world_of m ts) new
legal_claim ids h g did more fx m ts claims new w c s d kept distinct work copied track index session key same clear place is fxs moreis added =
    let may : MayClaim ids h s.track s.index s.session s.kid = rw (track, index, session, same) (may_claim ids h did m ts claims w c d kept distinct work copied) in
    let holds : held_key m s.session s.kid ≡ Some s.key = rw (session, key, same) (pick_holds m c.kid w.session w.key (claim_picked m ts claims w c d work copied)) in
    legal_claimed ids h g did more fx (world_of m ts) (world_of m ts) claims new s kept may place clear holds (is ∙ ap (λ (k : List ℕ). h ++ Claim s.worker s.track s.index s.session k ∷ []) (sym same)) refl fxs moreis added

pub pass_at : (ids : List ℕ) (h g : List Entry) (did more : List (List Effect)) (fx : List Effect) (track index at : ℕ) (bytes : List ℕ) (m : Machine) (ts : List FedTrack) (claims : List ClaimState) (d : FedTrack) → LegalKept ids h did (world_of m ts) claims → IsTrue (are_distinct ids) → IsFirst has_clear_head ts at → track ≡ (get_or ts at d).id → index ≡ length (get_or ts at d).outputs → g ≡ h ++ PassClear track index ∷ [] → fx ≡ [] → more ≡ did ++ fx ∷ [] → LegalKept ids g more (world_of m (changed_at ts at (more_out bytes))) claims
pass_at ids h g did more fx track index at bytes m ts claims d kept distinct first a b is fxs moreis =
    let may : MayPassClear ids h track index = rw (a, b) (may_pass ids h did m ts claims at d kept distinct first) in
    let none = subst (λ (n : ℕ). find_track (map track_of (take at ts)) n ≡ None) (sym a) (stands_at ids h did m ts claims at d kept distinct first.within) in
    legal_pass ids h g did more fx track index m ts (changed_at ts at (more_out bytes)) claims kept may is (changed_state ts at track (more_out bytes) one_more d (out_state bytes) first.within none (sym a)) fxs moreis

pub wait_at : (ids : List ℕ) (h g : List Entry) (did more : List (List Effect)) (fx : List Effect) (track at : ℕ) (m n : Machine) (ts : List FedTrack) (claims : List ClaimState) (d : FedTrack) → LegalKept ids h did (world_of m ts) claims → IsTrue (are_distinct ids) → IsFirst (is_unkeyed (pick m) claims) ts at → track ≡ (get_or ts at d).id → g ≡ h ++ WaitForKey track ∷ [] → n ≡ queue_task (Fire (WaitingForKey track)) m → fx ≡ [] → more ≡ did ++ fx ∷ [] → LegalKept ids g more (world_of n (changed_at ts at (with_waiting true))) claims
wait_at ids h g did more fx track at m n ts claims d kept distinct first t is queued fxs moreis =
    let may : MayWait ids h track = rw t (may_wait ids h did m ts claims at d kept distinct first) in
    let none = subst (λ (k : ℕ). find_track (map track_of (take at ts)) k ≡ None) (sym t) (stands_at ids h did m ts claims at d kept distinct first.within) in
    legal_wait ids h g did more fx track m n ts (changed_at ts at (with_waiting true)) claims kept may is queued (changed_state ts at track (with_waiting true) set_waiting d (λ x. refl) first.within none (sym t)) fxs moreis

pub publish_at : (ids : List ℕ) (h g : List Entry) (did more : List (List Effect)) (fx : List Effect) (track index at place : ℕ) (bytes : List ℕ) (m : Machine) (ts : List FedTrack) (claims new : List ClaimState) (d : FedTrack) → LegalKept ids h did (world_of m ts) claims → IsTrue (are_distinct ids) → IsReady claims ts at place → track ≡ (get_or ts at d).id → index ≡ length (get_or ts at d).outputs → g ≡ h ++ Publish track index place ∷ [] → fx ≡ [] → more ≡ did ++ fx ∷ [] → new ≡ filter (is_other place) claims → LegalKept ids g more (world_of m (changed_at ts at (more_out bytes))) new
publish_at ids h g did more fx track index at place bytes m ts claims new d kept distinct ready a b is fxs moreis less =
    let may : MayPublish ids h track index place = rw (a, b) (may_publish ids h did m ts claims at place d kept distinct ready).may in
    let none = subst (λ (n : ℕ). find_track (map track_of (take at ts)) n ≡ None) (sym a) (stands_at ids h did m ts claims at d kept distinct ready.within) in
    legal_publish ids h g did more fx track index place at m ts (changed_at ts at (more_out bytes)) claims new kept may is (changed_state ts at track (more_out bytes) one_more d (out_state bytes) ready.within none (sym a)) fxs moreis less

-- The tracks of a world keep their ids, which are distinct: the track at a place is the first with its id.
use Rattle.std.proofs.Common.{zero, suc, ◌≡◌, ℕ, ◌<◌, Bool, true, false, not, ◌&&◌, ◌||◌, List, [], ◌∷◌, length, get_or, Option, Some, None, inl, inr, refl, ap, sym, ◌∙◌, arith, map, take, eqb}
use Rattle.std.specs.Prelude.{if◌then◌else◌}
use Rattle.std.specs.List.{fold}
use Rattle.std.proofs.lemmas.Bool.Decides.{eqb_tells}
use Rattle.eme_types.specs.declared.media.TrackPart.{TrackPart}
use Rattle.eme_types.specs.declared.media.Fragment.{Fragment}
use Rattle.eme_types.specs.declared.entry.Entry.{Entry}
use Rattle.eme_types.specs.declared.entry.Entry.TheVariants.{Call, Job, Task, Tick, Feed, Evict, Claim, Deliver, GiveUp, Publish, PassClear, WaitForKey, Settle}
use Rattle.eme_types.specs.Fed.{is_among, are_distinct}
use Rattle.key_claims.specs.TracksState.{FedTrack, track_of}
use Rattle.cdm_world.specs.Tracks.{Picks, TrackState, empty_track, head, has_pick, find_track, change_track, feed_part, feed_parts, add_samples, one_more, set_waiting, resumed}
use Rattle.key_sessions.specs.Keys.{pick}
use Rattle.key_sessions.specs.World.{World, empty_world, resumes}
use Rattle.cdm_state.specs.After.{after_entry, feed_step}
use Rattle.cdm_state.specs.History.{world}
use Rattle.cdm_state.proofs.TrackLists.{same_yes}
use Rattle.cdm_state.proofs.TrackLists.{track_none}

abbrev pub state_id : TrackState → ℕ
state_id s = s.id

abbrev pub id_of : FedTrack → ℕ
id_of t = t.id

pub or_right : (b : Bool) → (b || true) ≡ true
or_right true = refl
or_right false = refl

pub and_both : (a b : Bool) → (a && b) ≡ true → (a ≡ true) × (b ≡ true)
and_both true b e = (refl, e)
and_both false b e = absurd cc

pub not_true : (b : Bool) → not b ≡ true → b ≡ true → ⊥
not_true true e f = absurd cc
not_true false e f = absurd cc

change_case : (b : Bool) (s : TrackState) (ts us : List TrackState) (f : TrackState → TrackState) → (f s).id ≡ s.id → map state_id us ≡ map state_id ts → map state_id (if b then f s ∷ ts else s ∷ us) ≡ s.id ∷ map state_id ts
change_case true s ts us f same rest = ap (λ (n : ℕ). n ∷ map state_id ts) same
change_case false s ts us f same rest = ap (λ (ns : List ℕ). s.id ∷ ns) rest

change_ids : (ts : List TrackState) (id : ℕ) (f : TrackState → TrackState) → ((s : TrackState) → (f s).id ≡ s.id) → map state_id (change_track ts id f) ≡ map state_id ts
change_ids [] id f same = refl
change_ids (s ∷ ts) id f same = change_case (eqb s.id id) s ts (change_track ts id f) f (same s) (change_ids ts id f same)

resumed_id : (b : Bool) (s : TrackState) → state_id (if b then record s { waiting = false } else s) ≡ s.id
resumed_id true s = refl
resumed_id false s = refl

resumed_ids : (picks : Picks) (ts : List TrackState) → map state_id (resumed picks ts) ≡ map state_id ts
resumed_ids picks [] = refl
resumed_ids picks (s ∷ ts) = ap (λ (n : ℕ). n ∷ map state_id (resumed picks ts)) (resumed_id (has_pick picks (head s)) s) ∙ ap (λ (ns : List ℕ). s.id ∷ ns) (resumed_ids picks ts)

parts_ids : (ts : List TrackState) (parts : List TrackPart) → map state_id (feed_parts ts parts) ≡ map state_id ts
parts_ids ts [] = refl
parts_ids ts (p ∷ parts) = parts_ids (feed_part ts p) parts ∙ change_ids ts p.track (add_samples p.samples) (λ s. refl)

feed_ids : (w : World) (f : Option Fragment) → map state_id (feed_step w f).tracks ≡ map state_id w.tracks
feed_ids w None = refl
feed_ids w (Some f) = parts_ids w.tracks f.parts

task_ids : (b : Bool) (picks : Picks) (ts : List TrackState) → map state_id (if b then resumed picks ts else ts) ≡ map state_id ts
task_ids true picks ts = resumed_ids picks ts
task_ids false picks ts = refl

entry_ids : (w : World) (e : Entry) → map state_id (after_entry w e).tracks ≡ map state_id w.tracks
entry_ids w (Call lane line call) = refl
entry_ids w Job = refl
entry_ids w Task = task_ids (resumes w.machine.tasks) (pick w.machine) w.tracks
entry_ids w (Tick line moment) = refl
entry_ids w (Feed line fragment) = feed_ids w fragment
entry_ids w (Evict line label) = refl
entry_ids w (Claim worker track index session kid) = refl
entry_ids w (Deliver place verdict) = refl
entry_ids w (GiveUp place) = refl
entry_ids w (Publish track index place) = change_ids w.tracks track one_more (λ s. refl)
entry_ids w (PassClear track index) = change_ids w.tracks track one_more (λ s. refl)
entry_ids w (WaitForKey track) = change_ids w.tracks track set_waiting (λ s. refl)
entry_ids w (Settle line) = refl

from_ids : (w : World) (h : List Entry) → map state_id (fold after_entry w h).tracks ≡ map state_id w.tracks
from_ids w [] = refl
from_ids w (e ∷ h) = from_ids (after_entry w e) h ∙ entry_ids w e

empty_ids : (ids : List ℕ) → map state_id (map empty_track ids) ≡ ids
empty_ids [] = refl
empty_ids (id ∷ ids) = ap (λ (ns : List ℕ). id ∷ ns) (empty_ids ids)

-- the tracks of a world have the ids of its core, in order
pub world_ids : (ids : List ℕ) (h : List Entry) → map state_id (world ids h).tracks ≡ ids
unfolding world
world_ids ids h = from_ids (empty_world ids) h ∙ empty_ids ids

pub states_ids : (ts : List FedTrack) → map state_id (map track_of ts) ≡ map id_of ts
states_ids [] = refl
states_ids (t ∷ ts) = ap (λ (ns : List ℕ). t.id ∷ ns) (states_ids ts)

pub among_at : (ts : List FedTrack) (i id : ℕ) (d : FedTrack) → i < length ts → (get_or ts i d).id ≡ id → is_among (map id_of ts) id ≡ true
among_at [] i id d lt same = absurd (omega arith)
among_at (t ∷ ts) zero id d lt same = rw (same_yes t.id id same) refl
among_at (t ∷ ts) (suc i) id d lt same = rw (among_at ts i id d (omega arith) same) (or_right (eqb t.id id))

-- no track before it has the id of the track at a place
pub first_here : (ts : List FedTrack) (i id : ℕ) (d : FedTrack) → are_distinct (map id_of ts) ≡ true → i < length ts → (get_or ts i d).id ≡ id → find_track (map track_of (take i ts)) id ≡ None
first_here [] i id d distinct lt same = absurd (omega arith)
first_here (t ∷ ts) zero id d distinct lt same = refl
first_here (t ∷ ts) (suc i) id d distinct lt same =
    let both = and_both (not (is_among (map id_of ts) t.id)) (are_distinct (map id_of ts)) distinct in
    elim (eqb_tells t.id id) [
      | inl p ↦ absurd (not_true (is_among (map id_of ts) t.id) both.0 (among_at ts i t.id d (omega arith) (same ∙ sym p.1)))
      | inr p ↦ rw p.0 (first_here ts i id d both.1 (omega arith) same)
    ]

-- the track at a place, by its id
pub find_here : (ts : List FedTrack) (i id : ℕ) (d : FedTrack) → i < length ts → find_track (map track_of (take i ts)) id ≡ None → (get_or ts i d).id ≡ id → find_track (map track_of ts) id ≡ Some (track_of (get_or ts i d))
find_here [] i id d lt none same = absurd (omega arith)
find_here (t ∷ ts) zero id d lt none same = rw (same_yes t.id id same) refl
find_here (t ∷ ts) (suc i) id d lt none same =
    let k = track_none (eqb t.id id) (track_of t) (find_track (map track_of (take i ts)) id) none in
    rw k.0 (find_here ts i id d (omega arith) k.1 same)

-- the place of the track that an id finds
pub record FoundAt (ts : List FedTrack) (id : ℕ) (s : TrackState) : Type 0 where
  pub place : ℕ
  pub within : place < length ts
  pub is : (d : FedTrack) → track_of (get_or ts place d) ≡ s
  pub same : s.id ≡ id

pub found_at : (ts : List FedTrack) (id : ℕ) (s : TrackState) → find_track (map track_of ts) id ≡ Some s → FoundAt ts id s
found_at [] id s e = absurd cc
found_at (t ∷ ts) id s e = elim (eqb_tells t.id id) [
  | inl p ↦ (let here : Some (track_of t) ≡ Some s = rw p.0 at e in let is : track_of t ≡ s = some_alone _ _ here in record { place = 0; within = omega arith; is = λ d. is; same = ap (λ (x : TrackState). x.id) (sym is) ∙ p.1 })
  | inr p ↦ (let f = found_at ts id s (rw p.0 at e) in record { place = suc f.place; within = omega (arith, f.within); is = f.is; same = f.same })
] where
  some_alone : (x y : TrackState) → Some x ≡ Some y → x ≡ y
  some_alone x y e = cc

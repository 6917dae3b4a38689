-- No track has more samples than were fed.
use Rattle.std.proofs.Common.{◌≡◌, ℕ, ◌+◌, ◌≤◌, Bool, true, false, List, [], ◌∷◌, length, length-append, Option, Some, None, inl, inr, refl, ap, map, arith}
use Rattle.std.specs.Prelude.{if◌then◌else◌, ◌==◌}
use Rattle.std.specs.List.{fold, sum_by}
use Rattle.std.proofs.lemmas.List.Sums.{sum_by-cons, sum_by-append}
use Rattle.std.proofs.lemmas.Bool.Decides.{eqb_tells}
use Rattle.std.proofs.lemmas.Option.{same_Some}
use Rattle.eme_types.specs.declared.limits.TheConstants.{MAX_SAMPLES}
use Rattle.eme_types.specs.declared.media.TrackPart.{TrackPart}
use Rattle.eme_types.specs.declared.media.Fragment.{Fragment}
use Rattle.eme_types.specs.declared.entry.Entry.{Entry}
use Rattle.eme_types.specs.declared.entry.Entry.TheVariants.{Call, Job, Task, Tick, Feed, Evict, Claim, Deliver, GiveUp, Publish, PassClear, WaitForKey, Settle}
use Rattle.eme_types.specs.Fed.{part_samples}
use Rattle.cdm_world.specs.Tracks.{Picks, TrackState, empty_track, head, has_pick, find_track, change_track, feed_part, feed_parts, add_samples, one_more, set_waiting, resumed}
use Rattle.key_sessions.specs.Keys.{pick}
use Rattle.key_sessions.specs.World.{World, empty_world, resumes}
use Rattle.cdm_state.specs.After.{after_entry, feed_step}
use Rattle.cdm_state.specs.History.{world, IsLegal, Allowed, samples_in, fed_samples_of, fed_samples}
use Rattle.cdm_state.proofs.Histories.{legal_induction}
use Rattle.cdm_state.proofs.Places.{fed_limit}

-- the samples of all tracks together
abbrev all_samples : List TrackState → ℕ
all_samples [] = 0
all_samples (t ∷ ts) = length t.fed + all_samples ts

either_few : (b : Bool) (ts us : List TrackState) (n : ℕ) → all_samples ts ≤ n → all_samples us ≤ n → all_samples (if b then ts else us) ≤ n
either_few true ts us n p q = p
either_few false ts us n p q = q

change_samples : (ts : List TrackState) (id : ℕ) (f : TrackState → TrackState) (n : ℕ) → ((t : TrackState) → length (f t).fed ≤ length t.fed + n) → all_samples (change_track ts id f) ≤ all_samples ts + n
change_samples [] id f n adds = omega arith
change_samples (t ∷ ts) id f n adds =
    let one : length (f t).fed ≤ length t.fed + n = adds t in
    let rest : all_samples (change_track ts id f) ≤ all_samples ts + n = change_samples ts id f n adds in
    either_few (t.id == id) (f t ∷ ts) (t ∷ change_track ts id f) (length t.fed + all_samples ts + n) (omega (arith, one)) (omega (arith, rest))

resumed_one : (b : Bool) (t : TrackState) → length (if b then record t { waiting = false } else t).fed ≡ length t.fed
resumed_one true t = refl
resumed_one false t = refl

resumed_samples : (picks : Picks) (ts : List TrackState) → all_samples (resumed picks ts) ≡ all_samples ts
resumed_samples picks [] = refl
resumed_samples picks (t ∷ ts) =
    let one : length (if has_pick picks (head t) then record t { waiting = false } else t).fed ≡ length t.fed = resumed_one (has_pick picks (head t)) t in
    let rest : all_samples (resumed picks ts) ≡ all_samples ts = resumed_samples picks ts in
    rw (one, rest) refl

parts_samples : (ts : List TrackState) (parts : List TrackPart) → all_samples (feed_parts ts parts) ≤ all_samples ts + sum_by part_samples parts
parts_samples ts [] = omega arith
parts_samples ts (p ∷ parts) =
    let one : all_samples (feed_part ts p) ≤ all_samples ts + length p.samples = change_samples ts p.track (add_samples p.samples) (length p.samples) (λ t. omega (arith, length-append t.fed p.samples)) in
    let rest : all_samples (feed_parts (feed_part ts p) parts) ≤ all_samples (feed_part ts p) + sum_by part_samples parts = parts_samples (feed_part ts p) parts in
    let sum : sum_by part_samples (p ∷ parts) ≡ length p.samples + sum_by part_samples parts = sum_by-cons part_samples p parts in
    omega (arith, one, rest, sum)

feed_samples : (w : World) (f : Option Fragment) → all_samples (feed_step w f).tracks ≤ all_samples w.tracks + samples_in f
feed_samples w None = omega arith
feed_samples w (Some f) = parts_samples w.tracks f.parts

task_samples : (b : Bool) (picks : Picks) (ts : List TrackState) → all_samples (if b then resumed picks ts else ts) ≤ all_samples ts + 0
task_samples true picks ts = omega (arith, resumed_samples picks ts)
task_samples false picks ts = omega arith

entry_samples : (w : World) (e : Entry) → all_samples (after_entry w e).tracks ≤ all_samples w.tracks + fed_samples_of e
entry_samples w (Call lane line call) = omega arith
entry_samples w Job = omega arith
entry_samples w Task = task_samples (resumes w.machine.tasks) (pick w.machine) w.tracks
entry_samples w (Tick line moment) = omega arith
entry_samples w (Feed line fragment) = feed_samples w fragment
entry_samples w (Evict line label) = omega arith
entry_samples w (Claim worker track index session kid) = omega arith
entry_samples w (Deliver place verdict) = omega arith
entry_samples w (GiveUp place) = omega arith
entry_samples w (Publish track index place) = change_samples w.tracks track one_more 0 (λ t. omega arith)
entry_samples w (PassClear track index) = change_samples w.tracks track one_more 0 (λ t. omega arith)
entry_samples w (WaitForKey track) = change_samples w.tracks track set_waiting 0 (λ t. omega arith)
entry_samples w (Settle line) = omega arith

from_samples : (w : World) (h : List Entry) → all_samples (fold after_entry w h).tracks ≤ all_samples w.tracks + fed_samples h
from_samples w [] = omega arith
from_samples w (e ∷ h) =
    let one : all_samples (after_entry w e).tracks ≤ all_samples w.tracks + fed_samples_of e = entry_samples w e in
    let rest : all_samples (fold after_entry (after_entry w e) h).tracks ≤ all_samples (after_entry w e).tracks + fed_samples h = from_samples (after_entry w e) h in
    let sum : fed_samples (e ∷ h) ≡ fed_samples_of e + fed_samples h = sum_by-cons fed_samples_of e h in
    omega (arith, one, rest, sum)

empty_samples : (ids : List ℕ) → all_samples (map empty_track ids) ≡ 0
empty_samples [] = refl
empty_samples (id ∷ ids) = omega (arith, empty_samples ids)

found_samples : (ts : List TrackState) (id : ℕ) (t : TrackState) → find_track ts id ≡ Some t → length t.fed ≤ all_samples ts
found_samples [] id t e = absurd cc
found_samples (s ∷ ts) id t e = elim (eqb_tells s.id id) [
  | inl p ↦ (let same : s ≡ t = same_Some s t (rw p.0 at e) in let k : length s.fed ≡ length t.fed = ap (λ (u : TrackState). length u.fed) same in omega (arith, k))
  | inr p ↦ (let k : length t.fed ≤ all_samples ts = found_samples ts id t (rw p.0 at e) in omega (arith, k))
]

keeps_limit : (ids : List ℕ) (g : List Entry) (e : Entry) → Allowed ids g e → fed_samples g ≤ MAX_SAMPLES → fed_samples g + fed_samples_of e ≤ MAX_SAMPLES
keeps_limit ids g (Feed line fragment) may few = fed_limit ids g fragment few may
keeps_limit ids g e may few = omega (arith, few)

limit : (ids : List ℕ) (h : List Entry) → IsLegal ids h → fed_samples h ≤ MAX_SAMPLES
limit ids h legal = legal_induction ids (λ g. fed_samples g ≤ MAX_SAMPLES) (omega arith) (λ g e l may few. omega (arith, keeps_limit ids g e may few, sum_by-append fed_samples_of g (e ∷ []))) h legal

-- a track of a legal history has at most so many samples as may be fed
pub track_samples : (ids : List ℕ) (h : List Entry) (id : ℕ) (t : TrackState) → IsLegal ids h → find_track (world ids h).tracks id ≡ Some t → length t.fed ≤ MAX_SAMPLES
unfolding world
track_samples ids h id t legal found =
    let all : all_samples (fold after_entry (empty_world ids) h).tracks ≤ all_samples (map empty_track ids) + fed_samples h = from_samples (empty_world ids) h in
    let none : all_samples (map empty_track ids) ≡ 0 = empty_samples ids in
    let one : length t.fed ≤ all_samples (fold after_entry (empty_world ids) h).tracks = found_samples (fold after_entry (empty_world ids) h).tracks id t found in
    let few : fed_samples h ≤ MAX_SAMPLES = limit ids h legal in
    omega (arith, all, none, one, few)

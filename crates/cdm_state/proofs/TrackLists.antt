-- Lists of tracks, their sums, and how they change.
use Rattle.std.proofs.Common.{zero, suc, ◌≡◌, ℕ, ◌+◌, ◌<◌, ◌≤◌, Bool, true, false, List, [], ◌∷◌, length, get_or, Option, Some, None, refl, ap, sym, subst, ◌∙◌, arith, map, take, eqb, inl, inr, length-append}
use Rattle.std.specs.Prelude.{if◌then◌else◌}
use Rattle.std.specs.List.{sum_by}
use Rattle.std.proofs.lemmas.List.Sums.{sum_by-cons, get_or-le-sum_by}
use Rattle.std.proofs.lemmas.Bool.Decides.{eqb_tells}
use Rattle.eme_types.specs.Fed.{part_samples}
use Rattle.eme_types.specs.declared.sample.EncSample.{EncSample}
use Rattle.eme_types.specs.declared.media.TrackPart.{TrackPart}
use Rattle.cdm_world.specs.Tracks.{Picks, TrackState, empty_track, find_track, change_track, one_more, add_samples, feed_parts, resumed, has_pick, head}
use Rattle.key_claims.specs.TracksState.{ClaimState, FedTrack, track_of}
use Rattle.key_claims.specs.TrackValue.{left_of, fed_of, all_left, all_fed}
use Rattle.key_claims.specs.Changes.{empty_fed, changed_at, more_out, more_fed, with_waiting, change_fed, feed_one, feed_all, resumed_one, find_fed}
use Rattle.key_claims.specs.Claims.{claimed_in}
use Rattle.key_claims.specs.Choice.{is_unkeyed, is_free_of, protect_at}
use Rattle.cdm_state.specs.Kept.{awake_of, all_awake}

pub no_track : FedTrack
no_track = record { id = 0; fed = []; outputs = []; waiting = false }

awake_step : (b : Bool) (n m : ℕ) → n ≤ m → (if b then 0 else 1) + n ≤ suc m
awake_step true n m le = omega (arith, le)
awake_step false n m le = omega (arith, le)

pub awake_within : (ts : List FedTrack) → all_awake ts ≤ length ts
awake_within [] = omega arith
awake_within (t ∷ ts) = subst (λ n. n ≤ suc (length ts)) (sym (sum_by-cons awake_of t ts)) (awake_step t.waiting (all_awake ts) (length ts) (awake_within ts))

unkeyed_off : (b c : Bool) → (if b then false else c) ≡ true → b ≡ false
unkeyed_off true c e = absurd cc
unkeyed_off false c e = refl

pub unkeyed_awake : (picks : Picks) (claims : List ClaimState) (t : FedTrack) → is_unkeyed picks claims t ≡ true → t.waiting ≡ false
unkeyed_awake picks claims t e = unkeyed_off t.waiting (is_free_of picks (claimed_in claims t.id (length t.outputs)) (protect_at t.fed (length t.outputs))) e

pub track_none : (b : Bool) (t : TrackState) (o : Option TrackState) → (if b then Some t else o) ≡ None → (b ≡ false) × (o ≡ None)
track_none true t o e = absurd cc
track_none false t o e = (refl, e)

pub not_same : (a b : ℕ) → (a ≡ b → ⊥) → eqb a b ≡ false
not_same a b ne = elim (eqb_tells a b) [ inl p ↦ absurd (ne p.1) | inr p ↦ p.0 ]

pub same_yes : (a b : ℕ) → a ≡ b → eqb a b ≡ true
same_yes a b e = elim (eqb_tells a b) [ inl p ↦ p.0 | inr p ↦ absurd (p.1 e) ]

-- the track at a place is changed

pub changed_length : (ts : List FedTrack) (i : ℕ) (f : FedTrack → FedTrack) → length (changed_at ts i f) ≡ length ts
changed_length [] i f = refl
changed_length (t ∷ ts) zero f = refl
changed_length (t ∷ ts) (suc i) f = ap suc (changed_length ts i f)

pub changed_here : (ts : List FedTrack) (i : ℕ) (f : FedTrack → FedTrack) (d : FedTrack) → i < length ts → get_or (changed_at ts i f) i d ≡ f (get_or ts i d)
changed_here [] i f d lt = absurd (omega arith)
changed_here (t ∷ ts) zero f d lt = refl
changed_here (t ∷ ts) (suc i) f d lt = changed_here ts i f d (omega arith)

pub changed_other : (ts : List FedTrack) (i k : ℕ) (f : FedTrack → FedTrack) (d : FedTrack) → (k ≡ i → ⊥) → get_or (changed_at ts i f) k d ≡ get_or ts k d
changed_other [] i k f d ne = refl
changed_other (t ∷ ts) zero zero f d ne = absurd (ne refl)
changed_other (t ∷ ts) zero (suc k) f d ne = refl
changed_other (t ∷ ts) (suc i) zero f d ne = refl
changed_other (t ∷ ts) (suc i) (suc k) f d ne = changed_other ts i k f d (λ e. ne (ap suc e))

-- a sum over the tracks
pub changed_sum : (g : FedTrack → ℕ) (ts : List FedTrack) (i : ℕ) (f : FedTrack → FedTrack) (d : FedTrack) → i < length ts → sum_by g (changed_at ts i f) + g (get_or ts i d) ≡ sum_by g ts + g (f (get_or ts i d))
changed_sum g [] i f d lt = absurd (omega arith)
changed_sum g (t ∷ ts) zero f d lt = (let a = sum_by-cons g (f t) ts in let b = sum_by-cons g t ts in omega (arith, a, b))
changed_sum g (t ∷ ts) (suc i) f d lt = (let a = sum_by-cons g t (changed_at ts i f) in let b = sum_by-cons g t ts in let r = changed_sum g ts i f d (omega arith) in omega (arith, a, b, r))

-- as the algorithms see it: the first track with the id is changed
pub changed_state : (ts : List FedTrack) (i id : ℕ) (f : FedTrack → FedTrack) (g : TrackState → TrackState) (d : FedTrack) → ((t : FedTrack) → track_of (f t) ≡ g (track_of t)) → i < length ts → find_track (map track_of (take i ts)) id ≡ None → (get_or ts i d).id ≡ id → map track_of (changed_at ts i f) ≡ change_track (map track_of ts) id g
changed_state [] i id f g d seen_as lt none same = absurd (omega arith)
changed_state (t ∷ ts) zero id f g d seen_as lt none same = (let e = same_yes t.id id same in rw e (ap (λ (s : TrackState). s ∷ map track_of ts) (seen_as t)))
changed_state (t ∷ ts) (suc i) id f g d seen_as lt none same =
    let k = track_none (eqb t.id id) (track_of t) (find_track (map track_of (take i ts)) id) none in
    rw k.0 (ap (λ (ys : List TrackState). track_of t ∷ ys) (changed_state ts i id f g d seen_as (omega arith) k.1 same))

pub out_state : (bytes : List ℕ) (t : FedTrack) → track_of (more_out bytes t) ≡ one_more (track_of t)
out_state bytes t = ap (λ (n : ℕ). let s : TrackState = record { id = t.id; fed = t.fed; published = n; waiting = t.waiting } in s) (length-append t.outputs (bytes ∷ []))

-- one more sample is out
pub record GivesOut (old new : List FedTrack) : Type 0 where
  pub left : all_left new + 1 ≡ all_left old
  pub awake : all_awake new ≡ all_awake old
  pub fed : all_fed new ≡ all_fed old

pub gives_out : (ts : List FedTrack) (i : ℕ) (bytes : List ℕ) (d : FedTrack) → i < length ts → length (get_or ts i d).outputs < length (get_or ts i d).fed → GivesOut ts (changed_at ts i (more_out bytes))
gives_out ts i bytes d lt some =
    let t = get_or ts i d in
    let n = length-append t.outputs (bytes ∷ []) in
    record {
      left = omega (arith, changed_sum left_of ts i (more_out bytes) d lt, n, some);
      awake = omega (arith, changed_sum awake_of ts i (more_out bytes) d lt);
      fed = omega (arith, changed_sum fed_of ts i (more_out bytes) d lt);
    }

-- one more track waits
pub record Sleeps (old new : List FedTrack) : Type 0 where
  pub left : all_left new ≡ all_left old
  pub awake : all_awake new + 1 ≡ all_awake old
  pub fed : all_fed new ≡ all_fed old

pub sleeps : (ts : List FedTrack) (i : ℕ) (d : FedTrack) → i < length ts → (get_or ts i d).waiting ≡ false → Sleeps ts (changed_at ts i (with_waiting true))
sleeps ts i d lt off =
    let was : awake_of (get_or ts i d) ≡ 1 = ap (λ (b : Bool). if b then 0 else 1) off in
    record {
      left = omega (arith, changed_sum left_of ts i (with_waiting true) d lt);
      awake = omega (arith, changed_sum awake_of ts i (with_waiting true) d lt, was);
      fed = omega (arith, changed_sum fed_of ts i (with_waiting true) d lt);
    }

-- at most n samples were added to the tracks
pub record Grown (old new : List FedTrack) (n : ℕ) : Type 0 where
  pub left : all_left new ≤ all_left old + n
  pub fed : all_fed new ≤ all_fed old + n
  pub awake : all_awake new ≡ all_awake old
  pub length_ : length new ≡ length old

grown_one : (ts : List FedTrack) (id : ℕ) (samples : List EncSample) → Grown ts (change_fed ts id (more_fed samples)) (length samples)
grown_one [] id samples = record { left = omega arith; fed = omega arith; awake = refl; length_ = refl }
grown_one (t ∷ ts) id samples = go (eqb t.id id) (grown_one ts id samples) where
  go : (b : Bool) → Grown ts (change_fed ts id (more_fed samples)) (length samples) → Grown (t ∷ ts) (if b then more_fed samples t ∷ ts else t ∷ change_fed ts id (more_fed samples)) (length samples)
  go true rest =
      let n = length-append t.fed samples in
      record {
        left = omega (arith, sum_by-cons left_of (more_fed samples t) ts, sum_by-cons left_of t ts, n);
        fed = omega (arith, sum_by-cons fed_of (more_fed samples t) ts, sum_by-cons fed_of t ts, n);
        awake = omega (arith, sum_by-cons awake_of (more_fed samples t) ts, sum_by-cons awake_of t ts);
        length_ = refl;
      }
  go false rest = record {
    left = omega (arith, sum_by-cons left_of t (change_fed ts id (more_fed samples)), sum_by-cons left_of t ts, rest.left);
    fed = omega (arith, sum_by-cons fed_of t (change_fed ts id (more_fed samples)), sum_by-cons fed_of t ts, rest.fed);
    awake = omega (arith, sum_by-cons awake_of t (change_fed ts id (more_fed samples)), sum_by-cons awake_of t ts, rest.awake);
    length_ = ap suc rest.length_;
  }

pub grown_all : (ts : List FedTrack) (parts : List TrackPart) → Grown ts (feed_all ts parts) (sum_by part_samples parts)
grown_all ts [] = record { left = omega arith; fed = omega arith; awake = refl; length_ = refl }
grown_all ts (p ∷ parts) =
    let a = grown_one ts p.track p.samples in
    let b = grown_all (feed_one ts p) parts in
    let n = sum_by-cons part_samples p parts in
    record { left = omega (arith, a.left, b.left, n); fed = omega (arith, a.fed, b.fed, n); awake = b.awake ∙ a.awake; length_ = b.length_ ∙ a.length_ }

fed_state : (ts : List FedTrack) (id : ℕ) (samples : List EncSample) → map track_of (change_fed ts id (more_fed samples)) ≡ change_track (map track_of ts) id (add_samples samples)
fed_state [] id samples = refl
fed_state (t ∷ ts) id samples = go (eqb t.id id) (fed_state ts id samples) where
  go : (b : Bool) → map track_of (change_fed ts id (more_fed samples)) ≡ change_track (map track_of ts) id (add_samples samples) → map track_of (if b then more_fed samples t ∷ ts else t ∷ change_fed ts id (more_fed samples)) ≡ (if b then add_samples samples (track_of t) ∷ map track_of ts else track_of t ∷ change_track (map track_of ts) id (add_samples samples))
  go true rest = refl
  go false rest = ap (λ (ys : List TrackState). track_of t ∷ ys) rest

pub fed_states : (ts : List FedTrack) (parts : List TrackPart) → map track_of (feed_all ts parts) ≡ feed_parts (map track_of ts) parts
fed_states ts [] = refl
fed_states ts (p ∷ parts) = fed_states (feed_one ts p) parts ∙ ap (λ (ys : List TrackState). feed_parts ys parts) (fed_state ts p.track p.samples)

-- waiting tracks were looked at again
pub record SameRoom (ts us : List FedTrack) : Type 0 where
  pub left : all_left us ≡ all_left ts
  pub fed : all_fed us ≡ all_fed ts
  pub length_ : length us ≡ length ts

resumed_room : (picks : Picks) (ts : List FedTrack) → SameRoom ts (map (resumed_one picks) ts)
resumed_room picks [] = record { left = refl; fed = refl; length_ = refl }
resumed_room picks (t ∷ ts) = (let r = resumed_room picks ts in record {
  left = sum_by-cons left_of (resumed_one picks t) (map (resumed_one picks) ts) ∙ (ap (λ n. left_of t + n) r.left ∙ sym (sum_by-cons left_of t ts));
  fed = sum_by-cons fed_of (resumed_one picks t) (map (resumed_one picks) ts) ∙ (ap (λ n. fed_of t + n) r.fed ∙ sym (sum_by-cons fed_of t ts));
  length_ = ap suc r.length_;
})

pub resumed_if : (b : Bool) (picks : Picks) (ts us : List FedTrack) → us ≡ (if b then map (resumed_one picks) ts else ts) → SameRoom ts us
resumed_if true picks ts us is = rw is (resumed_room picks ts)
resumed_if false picks ts us is = rw is (record { left = refl; fed = refl; length_ = refl })

resumed_case : (b : Bool) (t : FedTrack) → track_of (record t { waiting = if b then false else t.waiting }) ≡ (if b then record (track_of t) { waiting = false } else track_of t)
resumed_case true t = refl
resumed_case false t = refl

pub resumed_states : (picks : Picks) (ts : List FedTrack) → map track_of (map (resumed_one picks) ts) ≡ resumed picks (map track_of ts)
resumed_states picks [] = refl
resumed_states picks (t ∷ ts) = rw (resumed_case (has_pick picks (head (track_of t))) t, resumed_states picks ts) refl

-- tracks without a sample
pub empty_states : (ids : List ℕ) → map track_of (map empty_fed ids) ≡ map empty_track ids
empty_states [] = refl
empty_states (id ∷ ids) = ap (λ (ys : List TrackState). empty_track id ∷ ys) (empty_states ids)

pub empty_sums : (ids : List ℕ) → (all_left (map empty_fed ids) ≡ 0) × (all_fed (map empty_fed ids) ≡ 0)
empty_sums [] = (refl, refl)
empty_sums (id ∷ ids) =
    let r = empty_sums ids in
    let z : left_of (empty_fed id) ≡ 0 = refl in
    let y : fed_of (empty_fed id) ≡ 0 = refl in
    (omega (arith, sum_by-cons left_of (empty_fed id) (map empty_fed ids), z, r.0), omega (arith, sum_by-cons fed_of (empty_fed id) (map empty_fed ids), y, r.1))

-- the track that an id finds, as it is kept and as the algorithms see it
abbrev pub seen : Option FedTrack → Option TrackState
seen None = None
seen (Some t) = Some (track_of t)

seen_case : (b : Bool) (t : FedTrack) (o : Option FedTrack) (p : Option TrackState) → p ≡ seen o → (if b then Some (track_of t) else p) ≡ seen (if b then Some t else o)
seen_case true t o p e = refl
seen_case false t o p e = e

pub found_state : (ts : List FedTrack) (id : ℕ) → find_track (map track_of ts) id ≡ seen (find_fed ts id)
found_state [] id = refl
found_state (t ∷ ts) id = seen_case (eqb t.id id) t (find_fed ts id) (find_track (map track_of ts) id) (found_state ts id)

-- a track that has something left, and one that may begin to wait
pub left_here : (ts : List FedTrack) (i : ℕ) (d : FedTrack) → i < length ts → length (get_or ts i d).outputs < length (get_or ts i d).fed → 1 ≤ all_left ts
left_here ts i d lt some = (let most = get_or-le-sum_by left_of ts i d lt in omega (arith, most, some))

pub awake_here : (ts : List FedTrack) (i : ℕ) (d : FedTrack) → i < length ts → (get_or ts i d).waiting ≡ false → 1 ≤ all_awake ts
awake_here ts i d lt off =
    let most = get_or-le-sum_by awake_of ts i d lt in
    let one : awake_of (get_or ts i d) ≡ 1 = ap (λ (b : Bool). if b then 0 else 1) off in
    omega (arith, most, one)

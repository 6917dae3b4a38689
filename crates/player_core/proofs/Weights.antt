-- The weights of tracks and samples.
use Rattle.std.proofs.Common.{suc, ◌≡◌, ℕ, ◌+◌, ◌*◌, ◌≤◌, ◌<◌, Bool, true, false, not, List, [], ◌∷◌, Some, map, length, drop, inl, inr, refl, ap, ◌∙◌, sym, subst, arith}
use Rattle.std.specs.Prelude.{if◌then◌else◌}
use Rattle.std.specs.List.{sum_by}
use Rattle.std.proofs.lemmas.List.{drop_more}
use Rattle.std.proofs.lemmas.List.Sums.{sum_by-cons}
use Rattle.std.proofs.lemmas.Nat.{mul-le}
use Rattle.std.proofs.lemmas.Option.{slice_get-get_or}
use Rattle.std.proofs.lemmas.Bool.Decides.{eqb_tells}
use Rattle.std.proofs.Math.Nat.{eq-or-lt_of_le}
use Rattle.eme_types.specs.declared.sample.EncSample.{EncSample}
use Rattle.eme_types.specs.Fed.{is_among, are_distinct}
use Rattle.cdm_world.specs.Tracks.{Picks, TrackState, head, has_pick, find_track, change_track, one_more, resumed_track, resumed}
use Rattle.key_claims.specs.TracksState.{ClaimState}
use Rattle.cdm_state.proofs.TrackIds.{state_id, and_both}
use Rattle.output_order.proofs.Sizes.{something_at, some_same}
use Rattle.player_core.specs.Left.{awake_weight, samples_left, many_left, weigh, sample_weight}
use Rattle.track_media.proofs.LineFits.{not_true}
use Rattle.player_core.proofs.Queued.{woken}

sample_less : (a b : Bool) → (a ≡ true → b ≡ true) → (if b then 1 else 2) ≤ (if a then 1 else 2)
sample_less true true keeps = omega arith
sample_less true false keeps = let no : false ≡ true = keeps refl in absurd cc
sample_less false true keeps = omega arith
sample_less false false keeps = omega arith

-- samples weigh no more where each claimed one stays claimed
pub weigh_less : (f g : ℕ → Bool) (i : ℕ) (xs : List EncSample) → ((j : ℕ) → i ≤ j → f j ≡ true → g j ≡ true) → weigh g i xs ≤ weigh f i xs
weigh_less f g i [] keeps = omega arith
weigh_less f g i (x ∷ xs) keeps =
    let here = sample_less (f i) (g i) (keeps i (omega arith)) in
    let rest = weigh_less f g (i + 1) xs (λ j le. keeps j (omega arith)) in
    omega (arith, here, rest)

-- and less where one more is
pub weigh_fewer : (f g : ℕ → Bool) (i k : ℕ) (xs : List EncSample) → ((j : ℕ) → i ≤ j → f j ≡ true → g j ≡ true) → i ≤ k → k < i + length xs → f k ≡ false → g k ≡ true → weigh g i xs + 1 ≤ weigh f i xs
weigh_fewer f g i k [] keeps from within was is = absurd (omega arith)
weigh_fewer f g i k (x ∷ xs) keeps from within was is =
    elim (eq-or-lt_of_le from) [
      | inl same ↦ (
          let old : f i ≡ false = ap f same ∙ was in
          let new : g i ≡ true = ap g same ∙ is in
          let rest = weigh_less f g (i + 1) xs (λ j le. keeps j (omega arith)) in
          rw (old, new) (omega (arith, rest)))
      | inr more ↦ (
          let here = sample_less (f i) (g i) (keeps i (omega arith)) in
          let rest = weigh_fewer f g (i + 1) k xs (λ j le. keeps j (omega arith)) (omega arith) (omega arith) was is in
          omega (arith, here, rest))
    ]

sample_most : (b : Bool) → (if b then 1 else 2) ≤ 2
sample_most true = omega arith
sample_most false = omega arith

weigh_within : (f : ℕ → Bool) (i : ℕ) (xs : List EncSample) → weigh f i xs ≤ 2 * length xs
weigh_within f i [] = omega arith
weigh_within f i (x ∷ xs) = let here = sample_most (f i) in let rest = weigh_within f (i + 1) xs in omega (arith, here, rest)

-- samples weigh at most two each
pub samples_within : (claims : List ClaimState) (ts : List TrackState) → sum_by (sample_weight claims) ts ≤ 2 * sum_by many_left ts
samples_within claims [] = omega arith
samples_within claims (t ∷ ts) =
    let here : sample_weight claims t ≤ 2 * many_left t = weigh_within _ t.published (samples_left t) in
    let rest = samples_within claims ts in
    let a = sum_by-cons (sample_weight claims) t ts in
    let b = sum_by-cons many_left t ts in
    omega (arith, here, rest, a, b)

-- the head is the first sample that is left
pub left_next : (t : TrackState) (x : EncSample) → head t ≡ Some x → samples_left t ≡ x ∷ samples_left (one_more t)
left_next t x at =
    let lt : t.published < length t.fed = something_at t.fed t.published x at in
    drop_more t.fed t.published x lt ∙ ap (λ y. y ∷ drop (t.published + 1) t.fed) (some_same (sym (slice_get-get_or t.fed t.published x lt) ∙ at))

others_less : (f g : TrackState → ℕ) (id : ℕ) (ts : List TrackState) → is_among (map state_id ts) id ≡ false → ((t : TrackState) → (t.id ≡ id → ⊥) → g t ≤ f t) → sum_by g ts ≤ sum_by f ts
others_less f g id [] none less = omega arith
others_less f g id (t ∷ ts) none less =
    elim (eqb_tells t.id id) [
      | inl p ↦ absurd (let here : is_among (map state_id (t ∷ ts)) id ≡ true = rw p.0 refl in cc)
      | inr p ↦ (
          let here = less t p.1 in
          let rest = others_less f g id ts (rw p.0 at none) less in
          let a = sum_by-cons g t ts in
          let b = sum_by-cons f t ts in
          omega (arith, here, rest, a, b))
    ]

-- the tracks weigh less by so much where one is changed that does, and the others weigh no more
pub tracks_fall : (f g : TrackState → ℕ) (by : ℕ) (change : TrackState → TrackState) (id : ℕ) (s : TrackState) (ts : List TrackState) → are_distinct (map state_id ts) ≡ true → ((t : TrackState) → (t.id ≡ id → ⊥) → g t ≤ f t) → find_track ts id ≡ Some s → g (change s) + by ≤ f s → sum_by g (change_track ts id change) + by ≤ sum_by f ts
tracks_fall f g by change id s [] distinct less known falls = absurd cc
tracks_fall f g by change id s (t ∷ ts) distinct less known falls =
    let both = and_both (not (is_among (map state_id ts) t.id)) (are_distinct (map state_id ts)) distinct in
    elim (eqb_tells t.id id) [
      | inl p ↦ (
          let is : t ≡ s = some_same (rw p.0 at known) in
          let none : is_among (map state_id ts) id ≡ false = ap (is_among (map state_id ts)) (sym p.1) ∙ not_true (is_among (map state_id ts) t.id) both.0 in
          let rest = others_less f g id ts none less in
          let here : g (change t) + by ≤ f t = subst (λ (u : TrackState). g (change u) + by ≤ f u) (sym is) falls in
          let a = sum_by-cons g (change t) ts in
          let b = sum_by-cons f t ts in
          rw p.0 (omega (arith, here, rest, a, b)))
      | inr p ↦ (
          let here = less t p.1 in
          let rest = tracks_fall f g by change id s ts both.1 less (rw p.0 at known) falls in
          let a = sum_by-cons g t (change_track ts id change) in
          let b = sum_by-cons f t ts in
          rw p.0 (omega (arith, here, rest, a, b)))
    ]

awake_most : (t : TrackState) → awake_weight t ≤ 2
awake_most t = go t.waiting where
  go : (b : Bool) → (if b then 0 else 2) ≤ 2
  go true = omega arith
  go false = omega arith

all_awake : (ts : List TrackState) → sum_by awake_weight ts ≤ 2 * length ts
all_awake [] = omega arith
all_awake (t ∷ ts) = let here = awake_most t in let rest = all_awake ts in let a = sum_by-cons awake_weight t ts in omega (arith, here, rest, a)

resumed_length : (picks : Picks) (ts : List TrackState) → length (resumed picks ts) ≡ length ts
resumed_length picks [] = refl
resumed_length picks (t ∷ ts) = ap suc (resumed_length picks ts)

-- a look at the waiting tracks wakes no more than all
pub tracks_woken : (b : Bool) (picks : Picks) (ts : List TrackState) → sum_by awake_weight (if b then resumed picks ts else ts) ≤ sum_by awake_weight ts + woken (length ts) b
tracks_woken true picks ts = let all = all_awake (resumed picks ts) in let many = resumed_length picks ts in omega (arith, all, many)
tracks_woken false picks ts = omega arith

resumed_left : (picks : Picks) (t : TrackState) → many_left (resumed_track picks t) ≡ many_left t
resumed_left picks t = go (has_pick picks (head t)) where
  go : (b : Bool) → many_left (if b then record t { waiting = false } else t) ≡ many_left t
  go true = refl
  go false = refl

-- and leaves their samples
pub samples_stay : (b : Bool) (picks : Picks) (ts : List TrackState) → sum_by many_left (if b then resumed picks ts else ts) ≡ sum_by many_left ts
samples_stay false picks ts = refl
samples_stay true picks ts = go ts where
  go : (us : List TrackState) → sum_by many_left (resumed picks us) ≡ sum_by many_left us
  go [] = refl
  go (u ∷ us) =
      let here = resumed_left picks u in
      let rest = go us in
      let a = sum_by-cons many_left (resumed_track picks u) (resumed picks us) in
      let b = sum_by-cons many_left u us in
      omega (arith, here, rest, a, b)

-- less is queued: it outweighs the samples
pub queued_lowers : (old new left after was now : ℕ) → new + 1 ≤ old → after ≡ left → now ≤ 2 * after → new * (2 * after + 1) + now + 1 ≤ old * (2 * left + 1) + was
queued_lowers old new left after was now falls same within =
    let all = mul-le (new + 1) (2 * left + 1) old (2 * left + 1) falls (omega arith) in
    let most : now ≤ 2 * left = subst (λ n. now ≤ 2 * n) same within in
    rw same (omega (arith, all, most))

-- as much is queued, and the samples weigh less
pub samples_lower : (old new left after was now : ℕ) → new ≤ old → after ≤ left → now + 1 ≤ was → new * (2 * after + 1) + now + 1 ≤ old * (2 * left + 1) + was
samples_lower old new left after was now most fewer falls =
    let all = mul-le new (2 * after + 1) old (2 * left + 1) most (omega arith) in
    omega (arith, all, falls)

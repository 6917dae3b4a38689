-- Each claim goes on fitting its sample.
use Rattle.std.proofs.Common.{zero, suc, ◌≡◌, ℕ, ◌+◌, ◌<◌, ◌≤◌, Bool, true, false, not, ◌&&◌, IsTrue, List, [], ◌∷◌, ◌++◌, length, get_or, Option, Some, None, inl, inr, refl, ap, sym, subst, ◌∙◌, ◌⊎◌, arith, map, eqb, Result, Ok, Err, true≢false, length-append}
use Rattle.std.specs.Prelude.{if◌then◌else◌, slice_get, IfOk, OnErr, is_some}
use Rattle.std.proofs.lemmas.Bool.{and_parts, or_parts, or_right}
use Rattle.std.proofs.lemmas.Option.{same_Some}
use Rattle.std.specs.List.{filter}
use Rattle.std.proofs.Math.Nat.{eq-or-lt_of_le}
use Rattle.std.proofs.lemmas.Bool.Decides.{eqb_tells}
use Rattle.eme_types.specs.declared.limits.TheConstants.{CLAIM_WINDOW}
use Rattle.eme_types.specs.Fed.{is_among, are_distinct}
use Rattle.eme_types.specs.declared.kid.KeyBytes.{KeyBytes}
use Rattle.eme_types.specs.declared.sample.EncSample.{EncSample}
use Rattle.eme_types.specs.declared.sample.Protect.{Protect}
use Rattle.eme_types.specs.declared.media.TrackPart.{TrackPart}
use Rattle.sample_crypt.specs.Decryption.{decryption}
use Rattle.cdm_world.specs.In.{In}
use Rattle.cdm_world.specs.Tracks.{Picks, head}
use Rattle.key_claims.specs.declared.claim.Claim.{Claim}
use Rattle.key_claims.specs.declared.claim.ClaimFault.{ClaimFault}
use Rattle.key_claims.specs.declared.choice.Work.{Work}
use Rattle.key_claims.specs.TracksState.{ClaimState, FedTrack, track_of}
use Rattle.key_claims.specs.Claims.{is_other, claimed_in, give_clear, DeliversTo}
use Rattle.key_claims.specs.Changes.{empty_fed, find_fed, changed_at, change_fed, more_out, more_fed, feed_one, feed_all, with_waiting}
use Rattle.key_claims.specs.Choice.{IsWork, IsWorkOn, IsReady, free_pick, protect_at}
use Rattle.key_claims.specs.Contract.{HoldsWork, claimed}
use Rattle.key_claims.specs.Fits.{Fits, Apart, IsInHand, fed_at, fed_sample}
use Rattle.key_claims.specs.Kept.{fed_id}
use Rattle.key_claims.proofs.Lists.{same_yes, not_same}
use Rattle.cdm_world.proofs.Members.{In_filter, In_more}
use Rattle.key_claims.proofs.Readiness.{ready_there, ready_claimed, ready_on_sample}

-- a claim fits on where its sample stays and its index stays in the window
pub fits_on : (ts us : List FedTrack) (c : ClaimState) (u : FedTrack) → (fit : Fits ts c) → find_fed us c.track ≡ Some u → ((x : EncSample) → slice_get fit.track.fed c.index ≡ Some x → slice_get u.fed c.index ≡ Some x) → length u.outputs ≤ c.index → c.index < length u.outputs + CLAIM_WINDOW → Fits us c
fits_on ts us c u fit known up from window = record {
  track = u;
  known = known;
  sample = fit.sample;
  fed = up fit.sample fit.fed;
  protect = fit.protect;
  protected = fit.protected;
  same_id = fit.same_id;
  from = from;
  window = window;
  opened = fit.opened;
}

-- the track that an id finds, after the one at a place is changed

found_id : (ts : List FedTrack) (id : ℕ) (t : FedTrack) → find_fed ts id ≡ Some t → t.id ≡ id
found_id [] id t e = absurd cc
found_id (x ∷ ts) id t e = elim (eqb_tells x.id id) [
  | inl p ↦ (let here : Some x ≡ Some t = rw p.0 at e in ap (λ (y : FedTrack). y.id) (sym (same_Some x t here)) ∙ p.1)
  | inr p ↦ found_id ts id t (rw p.0 at e)
]

find_changed : (ts : List FedTrack) (i : ℕ) (f : FedTrack → FedTrack) (d : FedTrack) → ((t : FedTrack) → (f t).id ≡ t.id) → i < length ts → (id : ℕ) (t : FedTrack) → find_fed ts id ≡ Some t → (find_fed (changed_at ts i f) id ≡ Some t) ⊎ ((t ≡ get_or ts i d) × (find_fed (changed_at ts i f) id ≡ Some (f t)))
find_changed [] i f d same lt id t e = absurd cc
find_changed (x ∷ ts) zero f d same lt id t e = elim (eqb_tells x.id id) [
  | inl p ↦ (let here : Some x ≡ Some t = rw p.0 at e in
      let is = same_Some x t here in
      let k : eqb (f x).id id ≡ true = ap (λ (n : ℕ). eqb n id) (same x) ∙ p.0 in
      inr (sym is, rw k (ap (λ (y : FedTrack). Some (f y)) is)))
  | inr p ↦ (let k : eqb (f x).id id ≡ false = ap (λ (n : ℕ). eqb n id) (same x) ∙ p.0 in
      let there : find_fed ts id ≡ Some t = rw p.0 at e in
      inl (rw k there))
]
find_changed (x ∷ ts) (suc i) f d same lt id t e = elim (eqb_tells x.id id) [
  | inl p ↦ (let here : Some x ≡ Some t = rw p.0 at e in inl (rw p.0 here))
  | inr p ↦ elim (find_changed ts i f d same (omega arith) id t (rw p.0 at e)) [ inl q ↦ inl (rw p.0 q) | inr q ↦ inr (q.0, rw p.0 q.1) ]
]

find_mapped : (ts : List FedTrack) (f : FedTrack → FedTrack) → ((t : FedTrack) → (f t).id ≡ t.id) → (id : ℕ) (t : FedTrack) → find_fed ts id ≡ Some t → find_fed (map f ts) id ≡ Some (f t)
find_mapped [] f same id t e = absurd cc
find_mapped (x ∷ ts) f same id t e = elim (eqb_tells x.id id) [
  | inl p ↦ (let here : Some x ≡ Some t = rw p.0 at e in
      let k : eqb (f x).id id ≡ true = ap (λ (n : ℕ). eqb n id) (same x) ∙ p.0 in
      rw k (ap (λ (y : FedTrack). Some (f y)) (same_Some x t here)))
  | inr p ↦ (let k : eqb (f x).id id ≡ false = ap (λ (n : ℕ). eqb n id) (same x) ∙ p.0 in rw k (find_mapped ts f same id t (rw p.0 at e)))
]

-- an item stays where more follow
get_left : (xs ys : List EncSample) (i : ℕ) (x : EncSample) → slice_get xs i ≡ Some x → slice_get (xs ++ ys) i ≡ Some x
get_left [] ys i x at = absurd cc
get_left (z ∷ xs) ys zero x at = at
get_left (z ∷ xs) ys (suc i) x at = get_left xs ys i x at

-- after a feed

fits_one : (ts : List FedTrack) (id : ℕ) (samples : List EncSample) (c : ClaimState) → Fits ts c → Fits (change_fed ts id (more_fed samples)) c
fits_one ts id samples c fit = (let r = find ts fit.known in elim r [
  | inl same ↦ fits_on ts (change_fed ts id (more_fed samples)) c fit.track fit same (λ x e. e) fit.from fit.window
  | inr more ↦ fits_on ts (change_fed ts id (more_fed samples)) c (more_fed samples fit.track) fit more (λ x e. get_left fit.track.fed samples c.index x e) fit.from fit.window
]) where
  find : (ts : List FedTrack) → find_fed ts c.track ≡ Some fit.track → (find_fed (change_fed ts id (more_fed samples)) c.track ≡ Some fit.track) ⊎ (find_fed (change_fed ts id (more_fed samples)) c.track ≡ Some (more_fed samples fit.track))
  find [] e = absurd cc
  find (x ∷ ts) e = elim (eqb_tells x.id id) [
    | inl p ↦ elim (eqb_tells x.id c.track) [
      | inl q ↦ (let here : Some x ≡ Some fit.track = rw q.0 at e in inr (rw (p.0, q.0) (ap (λ (y : FedTrack). Some (more_fed samples y)) (same_Some x fit.track here))))
      | inr q ↦ (let there : find_fed ts c.track ≡ Some fit.track = rw q.0 at e in inl (rw (p.0, q.0) there))
    ]
    | inr p ↦ elim (eqb_tells x.id c.track) [
      | inl q ↦ (let here : Some x ≡ Some fit.track = rw q.0 at e in inl (rw (p.0, q.0) here))
      | inr q ↦ elim (find ts (rw q.0 at e)) [ inl y ↦ inl (rw (p.0, q.0) y) | inr y ↦ inr (rw (p.0, q.0) y) ]
    ]
  ]

pub fits_fed : (ts : List FedTrack) (parts : List TrackPart) (c : ClaimState) → Fits ts c → Fits (feed_all ts parts) c
fits_fed ts [] c fit = fit
fits_fed ts (p ∷ parts) c fit = fits_fed (feed_one ts p) parts c (fits_one ts p.track p.samples c fit)

-- after tracks begin to wait or no longer do
pub fits_mapped : (ts : List FedTrack) (f : FedTrack → FedTrack) → ((t : FedTrack) → (f t).id ≡ t.id) → ((t : FedTrack) → (f t).fed ≡ t.fed) → ((t : FedTrack) → (f t).outputs ≡ t.outputs) → (c : ClaimState) → Fits ts c → Fits (map f ts) c
fits_mapped ts f same fed out c fit =
    let n = ap (λ (l : List (List ℕ)). length l) (out fit.track) in
    fits_on ts (map f ts) c (f fit.track) fit (find_mapped ts f same c.track fit.track fit.known) (λ x e. rw fed e) (omega (arith, n, fit.from)) (omega (arith, n, fit.window))

pub fits_waiting : (ts : List FedTrack) (i : ℕ) (d : FedTrack) → i < length ts → (c : ClaimState) → Fits ts c → Fits (changed_at ts i (with_waiting true)) c
fits_waiting ts i d lt c fit = elim (find_changed ts i (with_waiting true) d (λ t. refl) lt c.track fit.track fit.known) [
  | inl same ↦ fits_on ts (changed_at ts i (with_waiting true)) c fit.track fit same (λ x e. e) fit.from fit.window
  | inr here ↦ fits_on ts (changed_at ts i (with_waiting true)) c (with_waiting true fit.track) fit here.1 (λ x e. e) fit.from fit.window
]

-- after one more sample is out, which the claim is not on
pub fits_out : (ts : List FedTrack) (i : ℕ) (bytes : List ℕ) (d : FedTrack) → i < length ts → (c : ClaimState) → (fit : Fits ts c) → (fit.track ≡ get_or ts i d → c.index ≡ length (get_or ts i d).outputs → ⊥) → Fits (changed_at ts i (more_out bytes)) c
fits_out ts i bytes d lt c fit other = elim (find_changed ts i (more_out bytes) d (λ t. refl) lt c.track fit.track fit.known) [
  | inl same ↦ fits_on ts (changed_at ts i (more_out bytes)) c fit.track fit same (λ x e. e) fit.from fit.window
  | inr here ↦ (let n = length-append fit.track.outputs (bytes ∷ []) in
      elim (eq-or-lt_of_le fit.from) [
        | inl e ↦ absurd (other here.0 (sym e ∙ ap (λ (t : FedTrack). length t.outputs) here.0))
        | inr lt ↦ fits_on ts (changed_at ts i (more_out bytes)) c (more_out bytes fit.track) fit here.1 (λ x e. e) (omega (arith, n, lt)) (omega (arith, n, fit.window))
      ])
]

-- a clear sample has no claim
pub not_clear : (ts : List FedTrack) (i : ℕ) (d : FedTrack) (c : ClaimState) (fit : Fits ts c) (x : EncSample) → head (track_of (get_or ts i d)) ≡ Some x → x.protect ≡ None → fit.track ≡ get_or ts i d → c.index ≡ length (get_or ts i d).outputs → ⊥
not_clear ts i d c fit x at clear same index =
    let here : slice_get fit.track.fed c.index ≡ Some x = rw (same, index) at in
    let one : fit.sample ≡ x = same_Some _ _ (sym fit.fed ∙ here) in
    let clash : Some fit.protect ≡ None = sym fit.protected ∙ (ap (λ (s : EncSample). s.protect) one ∙ clear) in
    absurd cc

-- claims on one sample are one
apart_same : (cs : List ClaimState) (a b : ClaimState) → Apart cs → In cs a → In cs b → a.track ≡ b.track → a.index ≡ b.index → a ≡ b
apart_same [] a b apart x y t i = absurd x
apart_same (c ∷ cs) a b apart (inl x) (inl y) t i = sym x ∙ y
apart_same (c ∷ cs) a b apart (inl x) (inr y) t i = absurd (apart.0 b y (ap (λ (z : ClaimState). z.track) x ∙ t) (ap (λ (z : ClaimState). z.index) x ∙ i))
apart_same (c ∷ cs) a b apart (inr x) (inl y) t i = absurd (apart.0 a x (ap (λ (z : ClaimState). z.track) y ∙ sym t) (ap (λ (z : ClaimState). z.index) y ∙ sym i))
apart_same (c ∷ cs) a b apart (inr x) (inr y) t i = apart_same cs a b apart.1 x y t i

filter_other : (place : ℕ) (cs : List ClaimState) (c : ClaimState) → In (filter (is_other place) cs) c → c.place ≡ place → ⊥
filter_other place [] c there same = there
filter_other place (x ∷ cs) c there same = go (λ m. filter_other place cs c m same) (eqb x.place place) refl there where
  go : (In (filter (is_other place) cs) c → ⊥) → (b : Bool) → eqb x.place place ≡ b → In (if not b then x ∷ filter (is_other place) cs else filter (is_other place) cs) c → ⊥
  go again true e m = again m
  go again false e (inl is) = (let y : eqb x.place place ≡ true = same_yes x.place place (ap (λ (z : ClaimState). z.place) is ∙ same) in true≢false (sym y ∙ e))
  go again false e (inr m) = again m

-- a claim that is left is not on the sample that was published
pub not_ready : (ts : List FedTrack) (claims : List ClaimState) (i place : ℕ) (d : FedTrack) (c : ClaimState) → IsReady claims ts i place → Apart claims → In (filter (is_other place) claims) c → (fit : Fits ts c) → fit.track ≡ get_or ts i d → c.index ≡ length (get_or ts i d).outputs → ⊥
not_ready ts claims i place d c ready apart there fit same index =
    let t = get_or ts i d in
    let r = ready_there claims t.id (length t.outputs) place (ready_claimed claims t place (ready.on d)) in
    let on = ready_on_sample t.id (length t.outputs) r.claim r.ready in
    let id : c.track ≡ t.id = sym (found_id ts c.track fit.track fit.known) ∙ ap (λ (x : FedTrack). x.id) same in
    let one : c ≡ r.claim = apart_same claims c r.claim apart (In_filter (is_other place) claims c there).0 r.there (id ∙ sym on.0) (index ∙ sym on.1) in
    filter_other place claims c there (ap (λ (x : ClaimState). x.place) one ∙ r.place_)

pub apart_filter : (f : ClaimState → Bool) (cs : List ClaimState) → Apart cs → Apart (filter f cs)
apart_filter f [] apart = tt
apart_filter f (x ∷ cs) apart = go (f x) (apart_filter f cs apart.1) where
  go : (b : Bool) → Apart (filter f cs) → Apart (if b then x ∷ filter f cs else filter f cs)
  go true rest = ((λ d there. apart.0 d (In_filter f cs d there).0), rest)
  go false rest = rest

pub fits_filter : (ts : List FedTrack) (f : ClaimState → Bool) (cs : List ClaimState) → ((c : ClaimState) → In cs c → Fits ts c) → (c : ClaimState) → In (filter f cs) c → Fits ts c
fits_filter ts f cs fits c there = fits c (In_filter f cs c there).0

-- after a delivery

pub record GivenFrom (place : ℕ) (clear : List ℕ) (cs : List ClaimState) (c : ClaimState) : Type 0 where
  pub old : ClaimState
  pub there : In cs old
  pub track : c.track ≡ old.track
  pub index : c.index ≡ old.index
  pub which : (c ≡ old) ⊎ ((old.place ≡ place) × (c ≡ record old { clear = Some clear }))

pub given_from : (place : ℕ) (clear : List ℕ) (cs : List ClaimState) (c : ClaimState) → In (give_clear place clear cs) c → GivenFrom place clear cs c
given_from place clear [] c there = absurd there
given_from place clear (x ∷ cs) c there = elim (eqb_tells x.place place) [
  | inl p ↦ here p.1 (rw p.0 at there)
  | inr p ↦ later (λ m. given_from place clear cs c m) (rw p.0 at there)
] where
  here : x.place ≡ place → In (record x { clear = Some clear } ∷ cs) c → GivenFrom place clear (x ∷ cs) c
  here at (inl e) = record { old = x; there = inl refl; track = ap (λ (y : ClaimState). y.track) (sym e); index = ap (λ (y : ClaimState). y.index) (sym e); which = inr (at, sym e) }
  here at (inr m) = record { old = c; there = inr m; track = refl; index = refl; which = inl refl }

  later : (In (give_clear place clear cs) c → GivenFrom place clear cs c) → In (x ∷ give_clear place clear cs) c → GivenFrom place clear (x ∷ cs) c
  later again (inl e) = record { old = x; there = inl refl; track = ap (λ (y : ClaimState). y.track) (sym e); index = ap (λ (y : ClaimState). y.index) (sym e); which = inl (sym e) }
  later again (inr m) = (let g = again m in record { old = g.old; there = inr g.there; track = g.track; index = g.index; which = g.which })

apart_given : (place : ℕ) (clear : List ℕ) (cs : List ClaimState) → Apart cs → Apart (give_clear place clear cs)
apart_given place clear [] apart = tt
apart_given place clear (x ∷ cs) apart = go (apart_given place clear cs apart.1) (eqb x.place place) where
  go : Apart (give_clear place clear cs) → (b : Bool) → Apart (if b then record x { clear = Some clear } ∷ cs else x ∷ give_clear place clear cs)
  go rest true = ((λ d there t i. apart.0 d there t i), apart.1)
  go rest false = ((λ d there t i. (let g = given_from place clear cs d there in apart.0 g.old g.there (t ∙ g.track) (i ∙ g.index))), rest)

fits_given : (ts : List FedTrack) (held : Claim) (clear : List ℕ) (old c : ClaimState) → Fits ts old → IsInHand ts old held → clear ≡ decryption held.sample held.key → c ≡ record old { clear = Some clear } → Fits ts c
fits_given ts held clear old c fit hand is same =
    let sample : fed_sample ts held.track held.index ≡ Some fit.sample = rw (← hand.track, ← hand.index) (ap (λ (o : Option FedTrack). fed_at o old.index) fit.known ∙ fit.fed) in
    let one : held.sample ≡ fit.sample = same_Some _ _ (sym hand.sample ∙ sample) in
    let opened : clear ≡ decryption fit.sample old.key = is ∙ (ap (λ (s : EncSample). decryption s held.key) one ∙ ap (λ (k : KeyBytes). decryption fit.sample k) (sym hand.key)) in
    rw same (record { track = fit.track; known = fit.known; sample = fit.sample; fed = fit.fed; protect = fit.protect; protected = fit.protected; same_id = fit.same_id; from = fit.from; window = fit.window; opened = opened })

pub fits_delivered : (o : Option (List ℕ)) (ts : List FedTrack) (held : Claim) (clear : List ℕ) (old new : List ClaimState) → DeliversTo old held.place clear o new → ((c : ClaimState) → In old c → Fits ts c) → ((c : ClaimState) → In old c → c.place ≡ held.place → IsInHand ts c held) → clear ≡ decryption held.sample held.key → (c : ClaimState) → In new c → Fits ts c
fits_delivered (Some back) ts held clear old new did fits hand is c there = fits c (subst (λ (l : List ClaimState). In l c) did.1 there)
fits_delivered None ts held clear old new did fits hand is c there =
    let g = given_from held.place clear old c (subst (λ (l : List ClaimState). In l c) did.1 there) in
    elim g.which [
      | inl same ↦ subst (λ (x : ClaimState). Fits ts x) (sym same) (fits g.old g.there)
      | inr now ↦ fits_given ts held clear g.old c (fits g.old g.there) (hand g.old g.there now.0) is now.1
    ]

pub apart_delivered : (o : Option (List ℕ)) (place : ℕ) (clear : List ℕ) (old new : List ClaimState) → DeliversTo old place clear o new → Apart old → Apart new
apart_delivered None place clear old new did apart = rw did.1 (apart_given place clear old apart)
apart_delivered (Some back) place clear old new did apart = rw did.1 apart

-- after a claim

among_at : (ts : List FedTrack) (i id : ℕ) (d : FedTrack) → i < length ts → (get_or ts i d).id ≡ id → is_among (map fed_id ts) id ≡ true
among_at [] i id d lt same = absurd (omega arith)
among_at (t ∷ ts) zero id d lt same = rw (same_yes t.id id same) refl
among_at (t ∷ ts) (suc i) id d lt same = rw (among_at ts i id d (omega arith) same) (or_right (eqb t.id id) true refl)

not_true : (b : Bool) → not b ≡ true → b ≡ true → ⊥
not_true true e f = absurd cc
not_true false e f = absurd cc

pub find_here : (ts : List FedTrack) (i : ℕ) (d : FedTrack) → are_distinct (map fed_id ts) ≡ true → i < length ts → find_fed ts (get_or ts i d).id ≡ Some (get_or ts i d)
find_here [] i d distinct lt = absurd (omega arith)
find_here (t ∷ ts) zero d distinct lt = (let e = same_yes t.id t.id refl in rw e refl)
find_here (t ∷ ts) (suc i) d distinct lt =
    let both = and_parts (not (is_among (map fed_id ts) t.id)) (are_distinct (map fed_id ts)) distinct in
    let e = not_same t.id (get_or ts i d).id (λ same. not_true (is_among (map fed_id ts) t.id) both.0 (among_at ts i t.id d (omega arith) (sym same))) in
    rw e (find_here ts i d both.1 (omega arith))

protected : (picks : Picks) (b : Bool) (o : Option Protect) (r : ℕ × KeyBytes) → free_pick picks b o ≡ Some r → is_some o ≡ true
protected picks b None r e = absurd cc
protected picks b (Some p) r e = refl

-- a sample that can be claimed is protected
pub work_protected : (picks : Picks) (claims : List ClaimState) (t : FedTrack) (w : Work) → IsWorkOn picks claims t w → is_some (protect_at t.fed w.index) ≡ true
work_protected picks claims t w on = protected picks (claimed_in claims t.id w.index) (protect_at t.fed w.index) (w.session, w.key) on.picked

unclaimed : (picks : Picks) (b : Bool) (o : Option Protect) (r : ℕ × KeyBytes) → free_pick picks b o ≡ Some r → b ≡ false
unclaimed picks b None r e = absurd cc
unclaimed picks true (Some p) r e = absurd cc
unclaimed picks false (Some p) r e = refl

not_claimed : (cs : List ClaimState) (track index : ℕ) (d : ClaimState) → claimed_in cs track index ≡ false → In cs d → d.track ≡ track → d.index ≡ index → ⊥
not_claimed [] track index d none there t i = there
not_claimed (c ∷ cs) track index d none (inl e) t i =
    let a = same_yes c.track track (ap (λ (y : ClaimState). y.track) e ∙ t) in
    let b = same_yes c.index index (ap (λ (y : ClaimState). y.index) e ∙ i) in
    (let yes : true ≡ false = rw (a, b) at none in true≢false yes)
not_claimed (c ∷ cs) track index d none (inr m) t i = not_claimed cs track index d (or_parts (eqb c.track track && eqb c.index index) (claimed_in cs track index) none).1 m t i

apart_more : (cs : List ClaimState) (c : ClaimState) → ((d : ClaimState) → In cs d → d.track ≡ c.track → d.index ≡ c.index → ⊥) → Apart cs → Apart (cs ++ c ∷ [])
apart_more [] c new apart = ((λ d there. absurd there), tt)
apart_more (x ∷ cs) c new apart = ((λ d there t i. elim (In_more cs c d there) [ inl m ↦ apart.0 d m t i | inr e ↦ new x (inl refl) (t ∙ ap (λ (y : ClaimState). y.track) (sym e)) (i ∙ ap (λ (y : ClaimState). y.index) (sym e)) ]), apart_more cs c (λ d there. new d (inr there)) apart.1)

-- what a claim leaves, where it is given and where it is refused
pub apart_held : (r : Result Claim ClaimFault) (picks : Picks) (ts : List FedTrack) (old new : List ClaimState) (t : FedTrack) (w : Work) (worker place : ℕ) → IsWork picks old ts w → t ≡ get_or ts w.at t → IfOk r (λ c. HoldsWork old t w worker place c new) → OnErr r (new ≡ old) → Apart old → Apart new
apart_held (Err f) picks ts old new t w worker place work here ok err apart = rw err apart
apart_held (Ok c) picks ts old new t w worker place work here ok err apart =
    let on : IsWorkOn picks old t w = subst (λ (x : FedTrack). IsWorkOn picks old x w) (sym here) (work.on t) in
    let none = unclaimed picks (claimed_in old t.id w.index) (protect_at t.fed w.index) (w.session, w.key) on.picked in
    rw ok.added (apart_more old (claimed c ok.protect.kid) (λ d there a b. not_claimed old t.id w.index d none there (a ∙ ok.track) (b ∙ ok.index)) apart)

pub fits_held : (r : Result Claim ClaimFault) (picks : Picks) (ts : List FedTrack) (old new : List ClaimState) (t : FedTrack) (w : Work) (worker place : ℕ) → IsTrue (are_distinct (map fed_id ts)) → IsWork picks old ts w → t ≡ get_or ts w.at t → IfOk r (λ c. HoldsWork old t w worker place c new) → OnErr r (new ≡ old) → ((c : ClaimState) → In old c → Fits ts c) → (c : ClaimState) → In new c → Fits ts c
fits_held (Err f) picks ts old new t w worker place distinct work here ok err fits c there = fits c (subst (λ (l : List ClaimState). In l c) err there)
fits_held (Ok h) picks ts old new t w worker place distinct work here ok err fits c there =
    let on : IsWorkOn picks old t w = subst (λ (x : FedTrack). IsWorkOn picks old x w) (sym here) (work.on t) in
    let s = claimed h ok.protect.kid in
    elim (In_more old s c (subst (λ (l : List ClaimState). In l c) ok.added there)) [
      | inl m ↦ fits c m
      | inr e ↦ subst (λ (x : ClaimState). Fits ts x) e (record {
        track = t;
        known = rw ok.track (subst (λ (x : FedTrack). find_fed ts x.id ≡ Some x) (sym here) (find_here ts w.at t distinct work.within));
        sample = h.sample;
        fed = rw ok.index ok.sample;
        protect = ok.protect;
        protected = ok.protected;
        same_id = refl;
        from = omega (arith, ok.index, on.from);
        window = omega (arith, ok.index, on.window);
        opened = tt;
      })
    ]

-- the ids of the tracks stay

pub ids_empty : (ids : List ℕ) → map fed_id (map empty_fed ids) ≡ ids
ids_empty [] = refl
ids_empty (id ∷ ids) = ap (λ (ns : List ℕ). id ∷ ns) (ids_empty ids)

pub ids_changed : (ts : List FedTrack) (i : ℕ) (f : FedTrack → FedTrack) → ((t : FedTrack) → (f t).id ≡ t.id) → map fed_id (changed_at ts i f) ≡ map fed_id ts
ids_changed [] i f same = refl
ids_changed (t ∷ ts) zero f same = ap (λ (n : ℕ). n ∷ map fed_id ts) (same t)
ids_changed (t ∷ ts) (suc i) f same = ap (λ (ns : List ℕ). t.id ∷ ns) (ids_changed ts i f same)

pub ids_mapped : (ts : List FedTrack) (f : FedTrack → FedTrack) → ((t : FedTrack) → (f t).id ≡ t.id) → map fed_id (map f ts) ≡ map fed_id ts
ids_mapped [] f same = refl
ids_mapped (t ∷ ts) f same = rw (same t, ids_mapped ts f same) refl

ids_one : (ts : List FedTrack) (id : ℕ) (samples : List EncSample) → map fed_id (change_fed ts id (more_fed samples)) ≡ map fed_id ts
ids_one [] id samples = refl
ids_one (t ∷ ts) id samples = go (eqb t.id id) (ids_one ts id samples) where
  go : (b : Bool) → map fed_id (change_fed ts id (more_fed samples)) ≡ map fed_id ts → map fed_id (if b then more_fed samples t ∷ ts else t ∷ change_fed ts id (more_fed samples)) ≡ t.id ∷ map fed_id ts
  go true rest = refl
  go false rest = ap (λ (ns : List ℕ). t.id ∷ ns) rest

pub ids_fed : (ts : List FedTrack) (parts : List TrackPart) → map fed_id (feed_all ts parts) ≡ map fed_id ts
ids_fed ts [] = refl
ids_fed ts (p ∷ parts) = ids_fed (feed_one ts p) parts ∙ ids_one ts p.track p.samples

pub still_distinct : (ts us : List FedTrack) → map fed_id us ≡ map fed_id ts → IsTrue (are_distinct (map fed_id ts)) → IsTrue (are_distinct (map fed_id us))
still_distinct ts us same distinct = ap are_distinct same ∙ distinct

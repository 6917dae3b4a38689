-- What the tracks keep goes on.
use Rattle.std.proofs.Common.{zero, suc, ◌≡◌, ℕ, ◌+◌, ◌≤◌, Bool, true, false, List, [], ◌∷◌, ◌++◌, length, Option, Some, None, inl, inr, refl, ap, sym, subst, ◌∙◌, arith, map, eqb, length-append, Result, Ok, Err}
use Rattle.std.specs.Prelude.{if◌then◌else◌, IfOk, OnErr}
use Rattle.std.specs.List.{filter, sum_by}
use Rattle.std.proofs.lemmas.List.Sums.{sum_by-cons}
use Rattle.eme_types.specs.declared.sample.EncSample.{EncSample}
use Rattle.eme_types.specs.declared.media.TrackPart.{TrackPart}
use Rattle.eme_types.specs.Fed.{part_samples}
use Rattle.cdm_world.specs.In.{In}
use Rattle.cdm_world.proofs.Members.{In_filter, In_more}
use Rattle.key_claims.specs.TracksState.{ClaimState, FedTrack}
use Rattle.key_claims.specs.Claims.{give_clear, DeliversTo}
use Rattle.key_claims.specs.Contract.{AreBelow, HoldsWork, claimed}
use Rattle.key_claims.specs.declared.claim.Claim.{Claim}
use Rattle.key_claims.specs.declared.claim.ClaimFault.{ClaimFault}
use Rattle.key_claims.specs.declared.choice.Work.{Work}
use Rattle.key_claims.specs.Kept.{Once}
use Rattle.key_claims.specs.TrackValue.{fed_of, all_fed}
use Rattle.key_claims.specs.Changes.{empty_fed, changed_at, change_fed, feed_one, feed_all, more_fed}

pub once_filter : (f : ClaimState → Bool) (cs : List ClaimState) → Once cs → Once (filter f cs)
once_filter f [] once = tt
once_filter f (x ∷ cs) once = go (f x) (once_filter f cs once.1) where
  go : (b : Bool) → Once (filter f cs) → Once (if b then x ∷ filter f cs else filter f cs)
  go true rest = ((λ d there. once.0 d (In_filter f cs d there).0), rest)
  go false rest = rest

pub once_more : (cs : List ClaimState) (c : ClaimState) → AreBelow c.place cs → Once cs → Once (cs ++ c ∷ [])
once_more [] c below once = ((λ d there. absurd there), tt)
once_more (x ∷ cs) c below once = ((λ d there same. elim (In_more cs c d there) [ inl m ↦ once.0 d m same | inr e ↦ (let at : d.place ≡ c.place = ap (λ (y : ClaimState). y.place) (sym e) in omega (arith, below.0, same, at)) ]), once_more cs c below.1 once.1)

-- places do not change by a delivery
In_given : (place : ℕ) (clear : List ℕ) (cs : List ClaimState) (d : ClaimState) → In (give_clear place clear cs) d → (c : ClaimState) × In cs c × (c.place ≡ d.place)
In_given place clear [] d there = absurd there
In_given place clear (x ∷ cs) d there = go (λ m. In_given place clear cs d m) (eqb x.place place) there where
  go : (In (give_clear place clear cs) d → (c : ClaimState) × In cs c × (c.place ≡ d.place)) → (b : Bool) → In (if b then record x { clear = Some clear } ∷ cs else x ∷ give_clear place clear cs) d → (c : ClaimState) × In (x ∷ cs) c × (c.place ≡ d.place)
  go again true (inl e) = (x, inl refl, ap (λ (y : ClaimState). y.place) e)
  go again true (inr m) = (d, inr m, refl)
  go again false (inl e) = (x, inl refl, ap (λ (y : ClaimState). y.place) e)
  go again false (inr m) = (let g = again m in (g.0, inr g.1, g.2))

pub once_given : (place : ℕ) (clear : List ℕ) (cs : List ClaimState) → Once cs → Once (give_clear place clear cs)
once_given place clear [] once = tt
once_given place clear (x ∷ cs) once = go (once_given place clear cs once.1) (eqb x.place place) where
  go : Once (give_clear place clear cs) → (b : Bool) → Once (if b then record x { clear = Some clear } ∷ cs else x ∷ give_clear place clear cs)
  go rest true = ((λ d there same. once.0 d there same), once.1)
  go rest false = ((λ d there same. (let g = In_given place clear cs d there in once.0 g.0 g.1 (same ∙ sym g.2))), rest)

-- the number of fed samples

pub fed_empty : (ids : List ℕ) → all_fed (map empty_fed ids) ≡ 0
fed_empty [] = refl
fed_empty (id ∷ ids) = (let a = sum_by-cons fed_of (empty_fed id) (map empty_fed ids) in let z : fed_of (empty_fed id) ≡ 0 = refl in let r = fed_empty ids in omega (arith, a, z, r))

pub fed_changed : (ts : List FedTrack) (i : ℕ) (f : FedTrack → FedTrack) → ((t : FedTrack) → (f t).fed ≡ t.fed) → all_fed (changed_at ts i f) ≡ all_fed ts
fed_changed [] i f same = refl
fed_changed (t ∷ ts) zero f same = sum_by-cons fed_of (f t) ts ∙ (ap (λ (xs : List EncSample). length xs + all_fed ts) (same t) ∙ sym (sum_by-cons fed_of t ts))
fed_changed (t ∷ ts) (suc i) f same = sum_by-cons fed_of t (changed_at ts i f) ∙ (ap (λ n. length t.fed + n) (fed_changed ts i f same) ∙ sym (sum_by-cons fed_of t ts))

pub fed_mapped : (ts : List FedTrack) (f : FedTrack → FedTrack) → ((t : FedTrack) → (f t).fed ≡ t.fed) → all_fed (map f ts) ≡ all_fed ts
fed_mapped [] f same = refl
fed_mapped (t ∷ ts) f same = sum_by-cons fed_of (f t) (map f ts) ∙ (ap (λ (xs : List EncSample). length xs + all_fed (map f ts)) (same t) ∙ (ap (λ n. length t.fed + n) (fed_mapped ts f same) ∙ sym (sum_by-cons fed_of t ts)))

fed_one : (ts : List FedTrack) (id : ℕ) (samples : List EncSample) → all_fed (change_fed ts id (more_fed samples)) ≤ all_fed ts + length samples
fed_one [] id samples = omega arith
fed_one (t ∷ ts) id samples = go (eqb t.id id) (fed_one ts id samples) where
  go : (b : Bool) → all_fed (change_fed ts id (more_fed samples)) ≤ all_fed ts + length samples → all_fed (if b then more_fed samples t ∷ ts else t ∷ change_fed ts id (more_fed samples)) ≤ all_fed (t ∷ ts) + length samples
  go true rest = (let a = sum_by-cons fed_of (more_fed samples t) ts in let b = sum_by-cons fed_of t ts in let l = length-append t.fed samples in omega (arith, a, b, l))
  go false rest = (let a = sum_by-cons fed_of t (change_fed ts id (more_fed samples)) in let b = sum_by-cons fed_of t ts in omega (arith, a, b, rest))

pub fed_all : (ts : List FedTrack) (parts : List TrackPart) → all_fed (feed_all ts parts) ≤ all_fed ts + sum_by part_samples parts
fed_all ts [] = omega arith
fed_all ts (p ∷ parts) = (let a = fed_all (feed_one ts p) parts in let b = fed_one ts p.track p.samples in let s = sum_by-cons part_samples p parts in omega (arith, a, b, s))

-- the places of claims differ after one more
pub once_held : (r : Result Claim ClaimFault) (old new : List ClaimState) (t : FedTrack) (w : Work) (worker place : ℕ) → IfOk r (λ c. HoldsWork old t w worker place c new) → OnErr r (new ≡ old) → AreBelow place old → Once old → Once new
once_held (Ok c) old new t w worker place ok err below once = rw ok.added (once_more old (claimed c ok.protect.kid) (subst (λ n. AreBelow n old) (sym ok.place_) below) once)
once_held (Err f) old new t w worker place ok err below once = rw err once

pub once_delivered : (o : Option (List ℕ)) (place : ℕ) (clear : List ℕ) (old new : List ClaimState) → DeliversTo old place clear o new → Once old → Once new
once_delivered None place clear old new did once = rw did.1 (once_given place clear old once)
once_delivered (Some back) place clear old new did once = rw did.1 once

-- Which claims can be delivered after a call.
use Rattle.std.proofs.Common.{◌≡◌, ◌≢◌, ℕ, ◌+◌, ◌<◌, Bool, true, false, List, [], ◌∷◌, ◌++◌, get_or, Some, inl, inr, refl, ap, sym, subst, ◌∙◌, arith, Result, Ok, Err}
use Rattle.std.specs.Prelude.{if◌then◌else◌, IfOk, OnErr}
use Rattle.std.specs.List.{filter}
use Rattle.cdm_world.specs.In.{In}
use Rattle.cdm_world.specs.Tracks.{Picks}
use Rattle.key_claims.specs.declared.claim.Claim.{Claim}
use Rattle.key_claims.specs.declared.claim.ClaimFault.{ClaimFault}
use Rattle.key_claims.specs.declared.claim.Delivered.{Delivered}
use Rattle.key_claims.specs.declared.claim.Delivered.TheVariants.{Taken, Stale}
use Rattle.key_claims.specs.TracksState.{ClaimState, FedTrack, TracksState}
use Rattle.key_claims.specs.Claims.{revoked}
use Rattle.key_claims.specs.Changes.{empty_fed, find_fed}
use Rattle.key_claims.specs.Contract.{AreBelow, Claims, Delivers, claimed}
use Rattle.key_claims.specs.Fits.{IsInHand, MayDeliver}
use Rattle.key_claims.specs.Kept.{AreSound}
use Rattle.cdm_world.proofs.Members.{In_filter, In_more}
use Rattle.key_claims.proofs.Fitting.{given_from, find_here}

-- places
below_next : (n : ℕ) (cs : List ClaimState) → AreBelow n cs → AreBelow (n + 1) cs
below_next n [] below = tt
below_next n (c ∷ cs) below = (omega (arith, below.0), below_next n cs below.1)

below_more : (n : ℕ) (cs : List ClaimState) (c : ClaimState) → AreBelow n cs → c.place ≡ n → AreBelow (n + 1) (cs ++ c ∷ [])
below_more n [] c below at = (omega (arith, at), tt)
below_more n (x ∷ cs) c below at = (omega (arith, below.0), below_more n cs c below.1 at)

below_in : (n : ℕ) (cs : List ClaimState) (c : ClaimState) → AreBelow n cs → In cs c → c.place < n
below_in n [] c below there = absurd there
below_in n (x ∷ cs) c below (inl e) = subst (λ (y : ClaimState). y.place < n) e below.0
below_in n (x ∷ cs) c below (inr m) = below_in n cs c below.1 m

pub below_filter : (f : ClaimState → Bool) (n : ℕ) (cs : List ClaimState) → AreBelow n cs → AreBelow n (filter f cs)
below_filter f n [] below = tt
below_filter f n (c ∷ cs) below = go (f c) (below_filter f n cs below.1) where
  go : (b : Bool) → AreBelow n (filter f cs) → AreBelow n (if b then c ∷ filter f cs else filter f cs)
  go true rest = (below.0, rest)
  go false rest = rest

-- after a claim
pub below_claim : (r : Result Claim ClaimFault) (picks : Picks) (old new : TracksState) (worker place : ℕ) → IfOk r (λ c. Claims picks old worker place c new) → OnErr r (new ≡ old) → AreBelow place old.claims → AreBelow (place + 1) new.claims
below_claim (Err f) picks old new worker place ok err below = rw err (below_next place old.claims below)
below_claim (Ok c) picks old new worker place ok err below =
    let h = ok.holds (empty_fed 0) in
    rw h.added (below_more place old.claims (claimed c h.protect.kid) below h.place_)

in_hand_now : (picks : Picks) (old new : TracksState) (worker place : ℕ) (c : Claim) → AreSound old → (ok : Claims picks old worker place c new) → IsInHand new.tracks (claimed c (ok.holds (empty_fed 0)).protect.kid) c
in_hand_now picks old new worker place c sound ok =
    let w = ok.work in
    let t = get_or old.tracks w.at (empty_fed 0) in
    let h = ok.holds (empty_fed 0) in
    let known : find_fed old.tracks t.id ≡ Some t = find_here old.tracks w.at (empty_fed 0) sound.distinct ok.first.within in
    record {
      track = refl;
      index = refl;
      key = refl;
      waits = refl;
      sample = rw (ok.tracks, h.track, known, h.index) h.sample;
    }

pub given_in_hand : (r : Result Claim ClaimFault) (picks : Picks) (old new : TracksState) (worker place : ℕ) → AreSound old → AreBelow place old.claims → IfOk r (λ c. Claims picks old worker place c new) → IfOk r (λ c. MayDeliver new c)
given_in_hand (Err f) picks old new worker place sound below ok = tt
given_in_hand (Ok c) picks old new worker place sound below ok = λ k there same.
    let h = ok.holds (empty_fed 0) in
    let s = claimed c h.protect.kid in
    elim (In_more old.claims s k (subst (λ (l : List ClaimState). In l k) h.added there)) [
      | inl m ↦ absurd (let lt = below_in place old.claims k below m in omega (arith, lt, same, h.place_))
      | inr e ↦ subst (λ (x : ClaimState). IsInHand new.tracks x c) e (in_hand_now picks old new worker place c sound ok)
    ]

pub given_place : (r : Result Claim ClaimFault) (picks : Picks) (old new : TracksState) (worker place : ℕ) → IfOk r (λ c. Claims picks old worker place c new) → IfOk r (λ c. c.place ≡ place)
given_place (Err f) picks old new worker place ok = tt
given_place (Ok c) picks old new worker place ok = (ok.holds (empty_fed 0)).place_

pub older_claimed : (r : Result Claim ClaimFault) (picks : Picks) (old new : TracksState) (worker place : ℕ) (held : Claim) → IfOk r (λ c. Claims picks old worker place c new) → OnErr r (new ≡ old) → held.place < place → MayDeliver old held → MayDeliver new held
older_claimed (Err f) picks old new worker place held ok err lt may = rw err may
older_claimed (Ok c) picks old new worker place held ok err lt may = λ k there same.
    let h = ok.holds (empty_fed 0) in
    let s = claimed c h.protect.kid in
    elim (In_more old.claims s k (subst (λ (l : List ClaimState). In l k) h.added there)) [
      | inl m ↦ subst (λ (ts : List FedTrack). IsInHand ts k held) (sym ok.tracks) (may k m same)
      | inr e ↦ absurd (let at : k.place ≡ c.place = ap (λ (x : ClaimState). x.place) (sym e) in omega (arith, lt, same, at, h.place_))
    ]

-- after a delivery at another place
pub others_cleared : (r : Delivered) (place : ℕ) (clear : List ℕ) (old new : TracksState) (held : Claim) → Delivers old place clear r new → held.place ≢ place → MayDeliver old held → MayDeliver new held
others_cleared (Stale back) place clear old new held did other may = rw did.1 may
others_cleared Taken place clear old new held did other may = rw did.1 (λ k there same. (let g = given_from place clear old.claims k there in
    elim g.which [
      | inl e ↦ subst (λ (x : ClaimState). IsInHand old.tracks x held) (sym e) (may g.old g.there (ap (λ (x : ClaimState). x.place) (sym e) ∙ same))
      | inr now ↦ absurd (other (sym same ∙ (ap (λ (x : ClaimState). x.place) now.1 ∙ now.0)))
    ]))

-- after a revocation
pub held_revoked : (session : ℕ) (kid : List ℕ) (s new : TracksState) (held : Claim) → new ≡ record s { claims = revoked session kid s.claims } → MayDeliver s held → MayDeliver new held
held_revoked session kid s new held did may = rw did (λ k there same. may k (In_filter _ s.claims k there).0 same)

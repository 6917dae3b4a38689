-- What the core keeps, after each kind of entry.
use Rattle.std.proofs.Common.{◌≡◌, ℕ, ◌+◌, true, false, List, [], ◌∷◌, ◌++◌, length, Some, None, refl, ap, sym, subst, ◌∙◌}
use Rattle.std.specs.Prelude.{filter}
use Rattle.eme_types.specs.declared.call.Effect.{Effect}
use Rattle.eme_types.specs.declared.entry.Entry.{Entry}
use Rattle.eme_types.specs.declared.entry.Entry.TheVariants.{Deliver}
use Rattle.eme_types.specs.declared.entry.Verdict.TheVariants.{Taken, Stale}
use Rattle.key_claims.specs.TracksState.{ClaimState}
use Rattle.key_sessions.specs.Keys.{held_key}
use Rattle.key_sessions.specs.World.{World}
use Rattle.cdm_state.specs.After.{after_entry, effects_of}
use Rattle.cdm_state.specs.Slots.{entry_of, holds_still}
use Rattle.key_claims.specs.Claims.{is_other, has_place, give_clear}
use Rattle.cdm_state.specs.Settlements.{effects_in}
use Rattle.cdm_state.specs.Claims.{ClaimsKept, LegalKept}
use Rattle.cdm_state.specs.History.{world, Allowed, Undelivered}
use Rattle.cdm_state.proofs.Histories.{world_more, effects_more, goes_on}
use Rattle.cdm_state.proofs.Live.{LeavesClaims, SameKeys, EndsOne, claims_go_on, claims_stay, claims_end}
use Rattle.cdm_state.proofs.Claiming.{claims_new, claims_taken, claims_stale, is_live, not_live}

-- one more entry, with what it did, and the claims that are live after it
legal_next : (ids : List ℕ) (h g : List Entry) (e : Entry) (did more : List (List Effect)) (fx : List Effect) (w v : World) (claims new : List ClaimState) → LegalKept ids h did w claims → Allowed ids h e → g ≡ h ++ e ∷ [] → v ≡ after_entry w e → fx ≡ effects_of w e → more ≡ did ++ fx ∷ [] → ClaimsKept ids (h ++ e ∷ []) new → LegalKept ids g more v new
legal_next ids h g e did more fx w v claims new kept allowed is after fxs moreis cs =
    let on = goes_on ids h g e w v kept.legal kept.state allowed is after in
    let d : more ≡ effects_in_of (h ++ e ∷ []) = moreis ∙ (ap (λ (x : List Effect). did ++ x ∷ []) (fxs ∙ ap (λ (u : World). effects_of u e) kept.state) ∙ (ap (λ (xs : List (List Effect)). xs ++ effects_of (world ids h) e ∷ []) kept.effects ∙ sym (effects_more ids h e))) in
    record { legal = on.0; state = on.1; effects = d ∙ ap effects_in_of (sym is); claims = subst (λ (x : List Entry). ClaimsKept ids x new) (sym is) cs }
  where
    effects_in_of : List Entry → List (List Effect)
    effects_in_of x = effects_in ids x

-- after a step of the sessions
pub legal_stepped : (ids : List ℕ) (h g : List Entry) (e : Entry) (did more : List (List Effect)) (fx : List Effect) (w v : World) (claims new : List ClaimState) → LegalKept ids h did w claims → Allowed ids h e → LeavesClaims e claims → g ≡ h ++ e ∷ [] → v ≡ after_entry w e → fx ≡ effects_of w e → more ≡ did ++ fx ∷ [] → new ≡ filter (holds_still v.machine) claims → LegalKept ids g more v new
legal_stepped ids h g e did more fx w v claims new kept allowed leaves is after fxs moreis refreshed =
    let state : v ≡ world ids (h ++ e ∷ []) = after ∙ (ap (λ u. after_entry u e) kept.state ∙ sym (world_more ids h e)) in
    let cs : ClaimsKept ids (h ++ e ∷ []) new = rw (refreshed, state) (claims_go_on ids h e claims leaves kept.claims) in
    legal_next ids h g e did more fx w v claims new kept allowed is after fxs moreis cs

same_keys : (ids : List ℕ) (h : List Entry) (e : Entry) (w : World) → w ≡ world ids h → SameKeys w.machine (after_entry w e).machine → SameKeys (world ids h).machine (world ids (h ++ e ∷ [])).machine
same_keys ids h e w state same = subst (λ (v : World). SameKeys (world ids h).machine v.machine) (sym (world_more ids h e)) (subst (λ (u : World). SameKeys u.machine (after_entry u e).machine) state same)

-- after an entry that leaves keys and claims
pub legal_left : (ids : List ℕ) (h g : List Entry) (e : Entry) (did more : List (List Effect)) (fx : List Effect) (w v : World) (claims : List ClaimState) → LegalKept ids h did w claims → Allowed ids h e → LeavesClaims e claims → SameKeys w.machine (after_entry w e).machine → g ≡ h ++ e ∷ [] → v ≡ after_entry w e → fx ≡ effects_of w e → more ≡ did ++ fx ∷ [] → LegalKept ids g more v claims
legal_left ids h g e did more fx w v claims kept allowed leaves same is after fxs moreis =
    legal_next ids h g e did more fx w v claims claims kept allowed is after fxs moreis (claims_stay ids h e claims leaves (same_keys ids h e w kept.state same) kept.claims)

-- after an entry that ends the claim at a place
pub legal_ended : (ids : List ℕ) (h g : List Entry) (e : Entry) (place : ℕ) (did more : List (List Effect)) (fx : List Effect) (w v : World) (claims new : List ClaimState) → LegalKept ids h did w claims → Allowed ids h e → EndsOne e place → SameKeys w.machine (after_entry w e).machine → g ≡ h ++ e ∷ [] → v ≡ after_entry w e → fx ≡ effects_of w e → more ≡ did ++ fx ∷ [] → new ≡ filter (is_other place) claims → LegalKept ids g more v new
legal_ended ids h g e place did more fx w v claims new kept allowed ends same is after fxs moreis less =
    legal_next ids h g e did more fx w v claims new kept allowed is after fxs moreis (rw less (claims_end ids h e place claims ends (same_keys ids h e w kept.state same) kept.claims))

-- after a new claim
pub legal_claimed : (ids : List ℕ) (h g : List Entry) (did more : List (List Effect)) (fx : List Effect) (w v : World) (claims new : List ClaimState) (s : ClaimState) → LegalKept ids h did w claims → Allowed ids h (entry_of s) → s.place ≡ length h + 1 → s.clear ≡ None → held_key w.machine s.session s.kid ≡ Some s.key → g ≡ h ++ entry_of s ∷ [] → v ≡ w → fx ≡ [] → more ≡ did ++ fx ∷ [] → new ≡ claims ++ s ∷ [] → LegalKept ids g more v new
legal_claimed ids h g did more fx w v claims new s kept allowed here waits holds is after fxs moreis added =
    legal_next ids h g (entry_of s) did more fx w v claims new kept allowed is after fxs moreis (rw added (claims_new ids h claims s kept.legal here waits (subst (λ (u : World). held_key u.machine s.session s.kid ≡ Some s.key) kept.state holds) kept.claims))

-- after a delivery that was taken, and after one that came too late
pub legal_taken : (ids : List ℕ) (h g : List Entry) (place : ℕ) (clear : List ℕ) (did more : List (List Effect)) (fx : List Effect) (w v : World) (claims new : List ClaimState) → LegalKept ids h did w claims → Undelivered h place → has_place place claims ≡ true → g ≡ h ++ Deliver place Taken ∷ [] → v ≡ w → fx ≡ [] → more ≡ did ++ fx ∷ [] → new ≡ give_clear place clear claims → LegalKept ids g more v new
legal_taken ids h g place clear did more fx w v claims new kept waits there is after fxs moreis given =
    legal_next ids h g (Deliver place Taken) did more fx w v claims new kept (waits, ((λ e. is_live ids h place claims kept.claims there), (λ l. refl))) is after fxs moreis (rw given (claims_taken ids h place clear claims kept.claims))

pub legal_stale : (ids : List ℕ) (h g : List Entry) (place : ℕ) (did more : List (List Effect)) (fx : List Effect) (w v : World) (claims new : List ClaimState) → LegalKept ids h did w claims → Undelivered h place → has_place place claims ≡ false → g ≡ h ++ Deliver place Stale ∷ [] → v ≡ w → fx ≡ [] → more ≡ did ++ fx ∷ [] → new ≡ claims → LegalKept ids g more v new
legal_stale ids h g place did more fx w v claims new kept waits gone is after fxs moreis same =
    legal_next ids h g (Deliver place Stale) did more fx w v claims new kept (waits, ((λ e. absurd cc), (λ l. absurd (not_live ids h place claims kept.claims gone l)))) is after fxs moreis (rw same (claims_stale ids h place claims gone kept.claims))

-- Behind what the lanes have seen only workers add, and a core at rest stays at rest.
use Rattle.std.proofs.Common.{zero, suc, ◌≡◌, ℕ, List, [], ◌∷◌, ◌++◌, refl, sym, subst, append_assoc, append-nil}
use Rattle.std.specs.List.{AllByRecursion}
use Rattle.eme_types.specs.declared.entry.Entry.{Entry}
use Rattle.eme_types.specs.declared.entry.Entry.TheVariants.{Claim, Deliver, GiveUp, Publish, PassClear}
use Rattle.cdm_state.specs.History.{world, IsLegal, Allowed, AtRest, Spends}
use Rattle.cdm_state.specs.Progress.{SpendClaims}
use Rattle.cdm_state.proofs.Histories.{legal_front, allowed_next}
use Rattle.cdm_state.proofs.Quiet.{rest_is_quiet, rest_stays}
use Rattle.output_order.proofs.Sizes.{some_same}
use Rattle.play_parts.specs.Crew.{IsOfCrew}

spends_one : (e : Entry) (place : ℕ) → Spends e place → SpendClaims (e ∷ [])
spends_one e place s zero x at = (place, subst (λ (z : Entry). Spends z place) (some_same at) s)
spends_one e place s (suc n) x at = absurd cc

stays_one : (ids : List ℕ) (k : ℕ) (h : List Entry) (e : Entry) → IsLegal ids h → AtRest (world ids h) → Allowed ids h e → IsOfCrew k e → AtRest (world ids (h ++ e ∷ []))
stays_one ids k h (Claim worker track index session kid) legal rest may w = absurd ((rest_is_quiet ids h legal rest).claim track index session kid may)
stays_one ids k h (Deliver place verdict) legal rest may w = rest_stays ids h (Deliver place verdict ∷ []) rest (spends_one (Deliver place verdict) place refl)
stays_one ids k h (GiveUp place) legal rest may w = rest_stays ids h (GiveUp place ∷ []) rest (spends_one (GiveUp place) place refl)
stays_one ids k h (Publish track index place) legal rest may w = absurd ((rest_is_quiet ids h legal rest).publish track index place may)
stays_one ids k h (PassClear track index) legal rest may w = absurd ((rest_is_quiet ids h legal rest).pass track index may)
stays_one ids k h e legal rest may w = absurd w

pub stays_at_rest : (ids : List ℕ) (k : ℕ) (h es : List Entry) → IsLegal ids (h ++ es) → AtRest (world ids h) → AllByRecursion (IsOfCrew k) es → AtRest (world ids (h ++ es))
stays_at_rest ids k h [] legal rest work = subst (λ (g : List Entry). AtRest (world ids g)) (sym (append-nil h)) rest
stays_at_rest ids k h (e ∷ es) legal rest work =
    let seam : (h ++ e ∷ []) ++ es ≡ h ++ e ∷ es = append_assoc h (e ∷ []) es in
    let next : AtRest (world ids (h ++ e ∷ [])) = stays_one ids k h e (legal_front ids h (e ∷ es) legal) rest (allowed_next ids h e es legal) work.0 in
    subst (λ (g : List Entry). AtRest (world ids g)) seam (stays_at_rest ids k (h ++ e ∷ []) es (subst (IsLegal ids) (sym seam) legal) next work.1)

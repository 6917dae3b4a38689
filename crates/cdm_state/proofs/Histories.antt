-- One more entry: the state after it, and that the history stays legal.
use Rattle.std.proofs.Common.{zero, suc, ◌≡◌, ℕ, List, [], ◌∷◌, ◌++◌, length, take, Some, inl, inr, refl, ap, sym, subst, ◌∙◌, append_assoc}
use Rattle.std.specs.Prelude.{slice_get}
use Rattle.std.specs.List.{fold}
use Rattle.std.proofs.lemmas.List.{append-nil}
use Rattle.std.proofs.lemmas.List.Sums.{fold-append}
use Rattle.eme_types.specs.declared.entry.Entry.{Entry}
use Rattle.key_sessions.specs.World.{World, empty_world}
use Rattle.cdm_state.specs.After.{after_entry, effects_of}
use Rattle.cdm_state.specs.History.{world, IsLegal, Allowed}
use Rattle.cdm_state.specs.Settlements.{effects_from, effects_in}
use Rattle.cdm_state.proofs.Places.{either_place}
use Rattle.cdm_world.proofs.ItemsAt.{get_here}

-- the state after one more entry
pub world_more : (ids : List ℕ) (h : List Entry) (e : Entry) → world ids (h ++ e ∷ []) ≡ after_entry (world ids h) e
unfolding world
world_more ids h e = fold-append after_entry (empty_world ids) h (e ∷ [])

effects_from_more : (w : World) (h : List Entry) (e : Entry) → effects_from w (h ++ e ∷ []) ≡ effects_from w h ++ effects_of (fold after_entry w h) e ∷ []
effects_from_more w [] e = refl
effects_from_more w (x ∷ h) e = ap (λ ys. effects_of w x ∷ ys) (effects_from_more (after_entry w x) h e)

-- the effects after one more entry
pub effects_more : (ids : List ℕ) (h : List Entry) (e : Entry) → effects_in ids (h ++ e ∷ []) ≡ effects_in ids h ++ effects_of (world ids h) e ∷ []
unfolding world effects_in
effects_more ids h e = effects_from_more (empty_world ids) h e

-- a legal history goes on by what is allowed after it
pub legal_more : (ids : List ℕ) (h : List Entry) (e : Entry) → IsLegal ids h → Allowed ids h e → IsLegal ids (h ++ e ∷ [])
unfolding IsLegal
legal_more ids h e legal allowed n x at =
    elim (either_place h e n x at) [
      | inl p ↦ subst (λ (g : List Entry). Allowed ids g x) (sym p.1) (legal n x p.0)
      | inr p ↦ rw (p.1, p.0) allowed
    ]

-- the state that is kept goes on with a legal history
pub goes_on : (ids : List ℕ) (h g : List Entry) (e : Entry) (w v : World) → IsLegal ids h → w ≡ world ids h → Allowed ids h e → g ≡ h ++ e ∷ [] → v ≡ after_entry w e → IsLegal ids g × (v ≡ world ids g)
goes_on ids h g e w v legal state allowed more after =
    rw more (legal_more ids h e legal allowed, after ∙ (ap (λ u. after_entry u e) state ∙ sym (world_more ids h e)))

take_here : (h es : List Entry) → take (length h) (h ++ es) ≡ h
take_here [] es = refl
take_here (x ∷ h) es = ap (λ ys. x ∷ ys) (take_here h es)

get_front : (h es : List Entry) (n : ℕ) (x : Entry) → slice_get h n ≡ Some x → (slice_get (h ++ es) n ≡ Some x) × (take n (h ++ es) ≡ take n h)
get_front [] es n x at = absurd cc
get_front (y ∷ h) es zero x at = (at, refl)
get_front (y ∷ h) es (suc n) x at = let p = get_front h es n x at in (p.0, ap (λ ys. y ∷ ys) p.1)

-- each front of a legal history is legal
pub legal_front : (ids : List ℕ) (h es : List Entry) → IsLegal ids (h ++ es) → IsLegal ids h
unfolding IsLegal
legal_front ids h es legal n x at = let p = get_front h es n x at in subst (λ (g : List Entry). Allowed ids g x) p.1 (legal n x p.0)

-- what stands behind a front was allowed after it
pub allowed_next : (ids : List ℕ) (h : List Entry) (e : Entry) (es : List Entry) → IsLegal ids (h ++ e ∷ es) → Allowed ids h e
unfolding IsLegal
allowed_next ids h e es legal = subst (λ (g : List Entry). Allowed ids g e) (take_here h (e ∷ es)) (legal (length h) e (get_here h e es))

legal_from : (ids : List ℕ) (P : List Entry → Type 0) → ((h : List Entry) (e : Entry) → IsLegal ids h → Allowed ids h e → P h → P (h ++ e ∷ [])) → (h es : List Entry) → P h → IsLegal ids (h ++ es) → P (h ++ es)
legal_from ids P step h [] p legal = subst P (sym (append-nil h)) p
legal_from ids P step h (e ∷ es) p legal =
    let seam : (h ++ e ∷ []) ++ es ≡ h ++ e ∷ es = append_assoc h (e ∷ []) es in
    subst P seam (legal_from ids P step (h ++ e ∷ []) es (step h e (legal_front ids h (e ∷ es) legal) (allowed_next ids h e es legal) p) (subst (λ (g : List Entry). IsLegal ids g) (sym seam) legal))

-- what holds at the start and is kept by each allowed entry holds after every legal history
pub legal_induction : (ids : List ℕ) (P : List Entry → Type 0) → P [] → ((h : List Entry) (e : Entry) → IsLegal ids h → Allowed ids h e → P h → P (h ++ e ∷ [])) → (h : List Entry) → IsLegal ids h → P h
legal_induction ids P start step h legal = legal_from ids P step [] h start legal

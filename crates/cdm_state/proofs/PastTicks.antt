-- No tick is past the moment.
use Rattle.std.proofs.Common.{◌≡◌, ℕ, ◌≤◌, inl, inr, List, [], ◌∷◌, ◌++◌, Some, ap, sym, ◌∙◌, arith}
use Rattle.std.specs.Prelude.{slice_get}
use Rattle.std.proofs.lemmas.List.Sums.{fold-append}
use Rattle.eme_types.specs.declared.entry.Entry.{Entry}
use Rattle.eme_types.specs.declared.entry.Entry.TheVariants.{Call, Job, Task, Tick, Feed, Evict, Claim, Deliver, GiveUp, Publish, PassClear, WaitForKey, Settle}
use Rattle.cdm_state.specs.Moment.{tick_to, last_moment}
use Rattle.cdm_state.specs.Law.{MomentIsPastEachTick}
use Rattle.cdm_state.specs.History.{Allowed}
use Rattle.cdm_state.proofs.Places.{either_place}
use Rattle.cdm_state.proofs.Histories.{legal_induction}
use Rattle.cdm_state.proofs.Moment.{moment_is}

tick_grows : (ids : List ℕ) (h : List Entry) (e : Entry) → Allowed ids h e → last_moment h ≤ tick_to (last_moment h) e
tick_grows ids h (Call lane line call) may = omega arith
tick_grows ids h Job may = omega arith
tick_grows ids h Task may = omega arith
tick_grows ids h (Tick line moment) may = omega (arith, may, moment_is ids h)
tick_grows ids h (Feed line fragment) may = omega arith
tick_grows ids h (Evict line label) may = omega arith
tick_grows ids h (Claim worker track index session kid) may = omega arith
tick_grows ids h (Deliver place verdict) may = omega arith
tick_grows ids h (GiveUp place) may = omega arith
tick_grows ids h (Publish track index place) may = omega arith
tick_grows ids h (PassClear track index) may = omega arith
tick_grows ids h (WaitForKey track) may = omega arith
tick_grows ids h (Settle line) may = omega arith

-- no tick is past the last one
abbrev PastTicks : List Entry → Type 0
PastTicks h = (n line moment : ℕ) → slice_get h n ≡ Some (Tick line moment) → moment ≤ last_moment h

past_more : (ids : List ℕ) (h : List Entry) (e : Entry) → Allowed ids h e → PastTicks h → PastTicks (h ++ e ∷ [])
past_more ids h e may past n line moment at =
    let more : last_moment (h ++ e ∷ []) ≡ tick_to (last_moment h) e = fold-append tick_to 0 h (e ∷ []) in
    elim (either_place h e n (Tick line moment) at) [
      | inl p ↦ omega (arith, past n line moment p.0, tick_grows ids h e may, more)
      | inr p ↦ (let last : last_moment (h ++ e ∷ []) ≡ moment = more ∙ ap (λ (x : Entry). tick_to (last_moment h) x) (sym p.0) in omega (arith, last))
    ]

past_none : PastTicks []
past_none n line moment at = absurd cc

-- the moment is at least that of each tick
pub moment_is_past : MomentIsPastEachTick
moment_is_past ids h n line moment legal at =
    let past = legal_induction ids PastTicks past_none (λ g e l may p. past_more ids g e may p) h legal n line moment at in
    omega (arith, past, moment_is ids h)

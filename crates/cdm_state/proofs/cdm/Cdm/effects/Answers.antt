use Rattle.std.proofs.Common.{◌≡◌, ◌<◌, ◌-◌, ◌∙◌, inl, inr, List, Some, length, get_or, ap, sym, arith, refl}
use Rattle.std.proofs.lemmas.Option.{slice_get-get_or}
use Rattle.eme_types.specs.declared.call.Effect.{Effect}
use Rattle.cdm_state.proofs.Exact.{effects_length}
use Rattle.cdm_state.proofs.cdm.Cdm.effects.Goals as goal

pub returns-then-at-effects-clause-none : goal.returns-then-at-effects-clause-none
returns-then-at-effects-clause-none c =
    let s = c.self.inside in
    let n : length s.parts.chronicle.effects ≡ length s.parts.chronicle.entries = ap (λ (xs : List (List Effect)). length xs) c.self.invariant.2.effects ∙ effects_length s.ids s.parts.chronicle.entries in
    let at : c.args.place - 1 < length s.parts.chronicle.effects = rw c.effects-effects.ensures at c.if-at-effects.true in
    rw (← c.self.view_is) ((λ e. absurd cc), (λ x. elim x [ inl a ↦ absurd (c.if-place-eq0.false (omega (arith, a))) | inr b ↦ absurd (omega (arith, b, n, at)) ]))

pub returns-then-at-effects-clause-some : goal.returns-then-at-effects-clause-some
returns-then-at-effects-clause-some c =
    let s = c.self.inside in
    let at : c.args.place - 1 < length s.parts.chronicle.effects = rw c.effects-effects.ensures at c.if-at-effects.true in
    let x : c.as_slice.result.now ≡ get_or s.parts.chronicle.effects (c.args.place - 1) c.index-effects-at.result = c.as_slice.ensures ∙ (c.index-effects-at.is ∙ ap (λ (xs : List (List Effect)). get_or xs (c.args.place - 1) c.index-effects-at.result) c.effects-effects.ensures) in
    rw (← c.self.view_is, ← c.self.invariant.2.effects) (slice_get-get_or s.parts.chronicle.effects (c.args.place - 1) c.index-effects-at.result at ∙ ap (λ (xs : List Effect). Some xs) (sym x))

pub returns-clause-none : goal.returns-clause-none
returns-clause-none c =
    let s = c.self.inside in
    let n : length s.parts.chronicle.effects ≡ length s.parts.chronicle.entries = ap (λ (xs : List (List Effect)). length xs) c.self.invariant.2.effects ∙ effects_length s.ids s.parts.chronicle.entries in
    let l : length c.effects-effects.result.now ≡ length s.parts.chronicle.effects = ap (λ (xs : List (List Effect)). length xs) c.effects-effects.ensures in
    rw (← c.self.view_is) ((λ e. inr (omega (arith, n, l, c.if-at-effects.false))), (λ x. refl))

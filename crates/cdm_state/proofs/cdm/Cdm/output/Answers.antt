use Rattle.std.proofs.Common.{◌≡◌, ℕ, List, Some, None, subst}
use Rattle.std.specs.Prelude.{MatchOption, slice_get}
use Rattle.cdm_state.proofs.OutOn.{outputs_are}
use Rattle.cdm_state.proofs.cdm.Cdm.output.Goals as goal

pub returns : goal.returns
returns c =
    let s = c.self.inside in
    rw (← c.self.view_is) (subst (λ (l : List (List ℕ)). MatchOption c.output.result (slice_get l c.args.index ≡ None) (λ x. slice_get l c.args.index ≡ Some x.now)) (outputs_are s.ids s.parts.chronicle.entries s.parts.chronicle.effects s.parts.sessions.machine s.parts.tracks.tracks s.parts.tracks.claims c.args.track c.self.invariant.2 c.self.invariant.4) c.output.ensures)

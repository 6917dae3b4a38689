use Rattle.cdm_state.proofs.Exact.{waits_is}
use Rattle.cdm_state.proofs.cdm.Cdm.waiting.Goals as goal

pub returns : goal.returns
returns c =
    let s = c.self.inside in
    rw (← c.self.view_is, c.waiting.ensures) (waits_is s.ids s.parts.chronicle.entries s.parts.chronicle.effects s.parts.sessions.machine s.parts.tracks.tracks s.parts.tracks.claims c.args.track c.self.invariant.2)

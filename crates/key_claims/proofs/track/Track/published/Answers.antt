use Rattle.std.proofs.Common.{◌∙◌, sym, arith}
use Rattle.key_claims.proofs.Shown.{shown_length}
use Rattle.key_claims.proofs.track.Track.published.Goals as goal

pub returns-clause-items : goal.returns-clause-items
returns-clause-items c =
    let s = c.self.inside in
    rw (← c.self.view_is) (c.len.ensures.items ∙ sym (shown_length s.fed.0 s.outputs.0 c.self.invariant.within))

pub returns-clause-within : goal.returns-clause-within
returns-clause-within c =
    let s = c.self.inside in
    let n = shown_length s.fed.0 s.outputs.0 c.self.invariant.within in
    rw (← c.self.view_is) (omega (arith, n, c.self.invariant.within))

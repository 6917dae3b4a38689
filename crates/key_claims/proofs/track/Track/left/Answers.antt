use Rattle.std.proofs.Common.{arith}
use Rattle.key_claims.proofs.Shown.{shown_length}
use Rattle.key_claims.proofs.track.Track.left.Goals as goal

pub returns : goal.returns
returns c =
    let s = c.self.inside in
    let n = shown_length s.fed.0 s.outputs.0 c.self.invariant.within in
    rw (← c.self.view_is) (omega (arith, n, c.saturating_sub.ensures, c.len.ensures.items, c.len-2.ensures.items))

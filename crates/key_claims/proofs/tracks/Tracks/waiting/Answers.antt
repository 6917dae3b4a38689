use Rattle.std.proofs.Common.{◌∙◌, Option, ap, sym}
use Rattle.key_claims.specs.TracksState.{FedTrack}
use Rattle.key_claims.specs.Changes.{waits}
use Rattle.key_claims.proofs.Lists.{found_at}
use Rattle.key_claims.proofs.tracks.Tracks.waiting.Goals as goal

pub returns-in-Some : goal.returns-in-Some
returns-in-Some c =
    let stands = rw c.deref.ensures.value at c.in-Some.ensures in
    let found = found_at c.self.inside.tracks.items c.in-Some.i c.args.track c.index.result.now stands c.index.ensures in
    rw (← c.self.view_is) (c.is_waiting.ensures ∙ ap (λ (o : Option FedTrack). waits o) (sym found))

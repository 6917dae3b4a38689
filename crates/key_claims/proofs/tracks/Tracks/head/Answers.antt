use Rattle.std.proofs.Common.{◌≡◌, Option, Some, None, sym, subst}
use Rattle.std.specs.Prelude.{MatchOption}
use Rattle.key_claims.specs.TracksState.{FedTrack}
use Rattle.key_claims.specs.Changes.{head_of}
use Rattle.key_claims.proofs.Lists.{found_at}
use Rattle.key_claims.proofs.tracks.Tracks.head.Goals as goal

pub returns-in-Some : goal.returns-in-Some
returns-in-Some c =
    let stands = rw c.deref.ensures.value at c.in-Some.ensures in
    let found = found_at c.self.inside.tracks.items c.in-Some.i c.args.track c.index.result.now stands c.index.ensures in
    rw (← c.self.view_is) (subst (λ (o : Option FedTrack). MatchOption c.head.result (head_of o ≡ None) (λ s. head_of o ≡ Some s.now)) (sym found) c.head.ensures)

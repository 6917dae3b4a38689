use Rattle.key_claims.specs.Kept.{fed_id}
use Rattle.key_claims.proofs.Lists.{no_track}
use Rattle.key_claims.proofs.Fitting.{fits_waiting, ids_changed, still_distinct}
use Rattle.std.proofs.Common.{◌∙◌, List, map, true, ap, refl, arith}
use Rattle.key_claims.specs.TracksState.{FedTrack}
use Rattle.key_claims.specs.TrackValue.{fed_track, all_fed}
use Rattle.key_claims.specs.Changes.{with_waiting}
use Rattle.key_claims.proofs.Sound.{fed_changed}
use Rattle.key_claims.proofs.tracks.Tracks.wait_for_key.Goals as goal

pub invariant_of-self : goal.invariant_of-self
invariant_of-self g c =
    let all = ap (λ (ts : List FedTrack). all_fed ts) c.begin_to_wait.ensures ∙ fed_changed (map fed_track c.self.inside.tracks.items) c.in-Some.at (with_waiting true) (λ t. refl) in
    let ts = map fed_track c.self.inside.tracks.items in
    let first = rw c.deref.ensures.value at c.in-Some.ensures in
    record { few = omega (arith, all, c.self.invariant.few); distinct = still_distinct ts (map fed_track c.begin_to_wait.new.tracks.items) (ap (λ (xs : List FedTrack). map fed_id xs) c.begin_to_wait.ensures ∙ ids_changed ts c.in-Some.at (with_waiting true) (λ t. refl)) c.self.invariant.distinct; once = c.self.invariant.once; fits = rw c.begin_to_wait.ensures (λ x there. fits_waiting ts c.in-Some.at no_track.track first.within x (c.self.invariant.fits x there)); apart = c.self.invariant.apart }

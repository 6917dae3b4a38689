use Rattle.std.proofs.Common.{◌≡◌, Some, sym, subst}
use Rattle.cdm_world.specs.Tracks.{head}
use Rattle.key_claims.specs.TracksState.{FedTrack, track_of}
use Rattle.key_claims.specs.TrackValue.{TrackValue}
use Rattle.key_claims.specs.Changes.{more_out}
use Rattle.key_claims.proofs.Lists.{changed_is, seen_here}
use Rattle.key_claims.proofs.tracks.put_same.Goals as goal

pub returns : goal.returns
returns c = λ x heads.
    let u = c.index_mut-track.result.now in
    let vs = c.args.tracks.now.items in
    let here = c.index_mut-track.ensures.value in
    let first = subst (λ (y : TrackValue). head (track_of y.track) ≡ Some x) (sym here) (seen_here (λ (t : FedTrack). head (track_of t) ≡ Some x) vs c.args.at u.track c.requires.within (heads u.track) u) in
    changed_is vs c.args.at (more_out x.bytes) c.put_same.new.self u c.requires.within here (c.put_same.ensures x first)

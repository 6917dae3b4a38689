use Rattle.std.proofs.Common.{◌<◌, length}
use Rattle.key_claims.specs.TrackValue.{resumed_value}
use Rattle.key_claims.proofs.Lists.{map_more}
use Rattle.key_claims.proofs.tracks.resume_all.Goals as goal

pub loop-track-preserved : goal.loop-track-preserved
loop-track-preserved g c =
    let lt : c.loop-track.track-index < length c.args.tracks.now.items = rw c.deref_mut-track-items.ensures.value at c.loop-track-test.true in
    map_more (resumed_value (g.P.Picks.picks c.args.sessions.now)) c.args.tracks.now.items c.loop-track.track-items c.loop-track.track-index c.track-item.result _ lt c.loop-track.invariant c.resume_one.ensures

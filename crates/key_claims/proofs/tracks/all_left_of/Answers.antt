use Rattle.std.proofs.Common.{◌<◌, length, ap, arith}
use Rattle.key_claims.specs.TrackValue.{TrackValue, left_of}
use Rattle.eme_types.specs.declared.limits.TheConstants.{MAX_SAMPLES}
use Rattle.key_claims.proofs.Lists.{left_more}
use Rattle.key_claims.proofs.tracks.all_left_of.Goals as goal

pub overflow_add-all : goal.overflow_add-all
overflow_add-all c =
    let lt : c.loop-track.track-index < length c.args.tracks.now.items = rw c.deref-track-items.ensures.value at c.loop-track-test.true in
    let here = ap (λ (v : TrackValue). left_of v.track) (rw c.deref-track-items.ensures.value at c.track-item.is) in
    let m = left_more c.args.tracks.now.items MAX_SAMPLES c.loop-track.track-index c.track-item.result c.requires lt in
    omega (arith, m.1, c.loop-track.invariant, here, c.left-all.ensures)

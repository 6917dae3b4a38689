use Rattle.std.proofs.Common.{length, ap, arith}
use Rattle.eme_types.specs.declared.limits.TheConstants.{MAX_SAMPLES}
use Rattle.key_claims.specs.TrackValue.{TrackValue}
use Rattle.key_claims.proofs.Lists.{fed_within}
use Rattle.key_claims.proofs.tracks.next_of.Goals as goal

pub overflow_cast-result : goal.overflow_cast-result
overflow_cast-result c =
    let u = c.index-track.result.now in
    let here = ap (λ (v : TrackValue). length v.track.fed) c.index-track.ensures in
    let most = fed_within c.args.tracks.now.items MAX_SAMPLES c.args.at u c.requires.few c.requires.within in
    omega (arith, here, most, c.published.ensures.items, c.published.ensures.within)

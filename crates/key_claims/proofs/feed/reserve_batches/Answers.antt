use Rattle.std.proofs.Common.{◌<◌, length, ap, arith, rules}
use Rattle.std.proofs.Common.{List}
use Rattle.key_claims.specs.TracksState.{FedTrack}
use Rattle.key_claims.proofs.Lists.{same_seen, ready_set, seen_length}
use Rattle.key_claims.proofs.feed.reserve_batches.Goals as goal

pub returns-in_err-reserve_one-clause-same : goal.returns-in_err-reserve_one-clause-same
returns-in_err-reserve_one-clause-same c = same_seen c.loop-i.tracks.items _ c.loop-i.i _ c.index_mut-track.result.now c.loop-i.invariant.0 c.index_mut-track.ensures.value c.in_err-reserve_one.ensures.same

pub loop-i-preserved : goal.loop-i-preserved
loop-i-preserved c =
    let lt : c.loop-i.i < length c.loop-i.tracks.items = search rules in (
      same_seen c.loop-i.tracks.items _ c.loop-i.i _ c.index_mut-track.result.now c.loop-i.invariant.0 c.index_mut-track.ensures.value c.in_ok-reserve_one.ensures.same,
      ready_set c.args.batches.now c.loop-i.tracks.items c.loop-i.i _ lt c.loop-i.invariant.1 c.in_ok-reserve_one.ensures.ready,
    )

pub returns-clause-ready : goal.returns-clause-ready
returns-clause-ready c =
    let l = ap (λ (ts : List FedTrack). length ts) c.loop-i.invariant.0 in
    λ k d lt. c.loop-i.invariant.1 k d (omega (arith, l, seen_length c.loop-i.tracks.items, seen_length c.args.tracks.now.items, lt, c.loop-i-test.false, c.len-i-end.ensures))

use Rattle.std.proofs.Common.{◌<◌, arith, rules}
use Rattle.sample_aux.proofs.Following.{one_more, finished, near_more}
use Rattle.sample_aux.proofs.sample_data.follow.Goals as goal

pub loop-k-preserved : goal.loop-k-preserved
loop-k-preserved c =
    let small : c.size_at-size.result < 256 = search rules in
    let low = c.loop-k.invariant.low in
    record {
      so_far = rw (c.in_ok-push.ensures.ok, c.behind-cursor.ensures, c.data_from-range.ensures, c.size_at-size.ensures) (one_more c.args.saiz.now c.loop-k.cursor.at c.loop-k.k c.args.end c.loop-k.ranges _ c.loop-k-test.true c.loop-k.invariant.so_far);
      low = omega (arith, low);
      near = rw c.behind-cursor.ensures (near_more c.args.start.at c.loop-k.cursor.at c.args.first c.loop-k.k c.size_at-size.result small low c.loop-k.invariant.near);
    }

pub returns : goal.returns
returns c = finished c.args.saiz.now c.loop-k.cursor.at c.loop-k.k c.args.end c.loop-k.ranges _ c.loop-k-test.false c.loop-k.invariant.so_far

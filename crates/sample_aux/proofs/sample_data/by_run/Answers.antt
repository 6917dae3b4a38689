use Rattle.std.proofs.Common.{◌≡◌, ℕ, ◌+◌, ◌<◌, ◌^◌, drop, ap, arith, rules}
use Rattle.std.proofs.lemmas.List.{drop_all}
use Rattle.sample_aux.proofs.Runs.{drop_item}
use Rattle.sample_aux.proofs.Following.{one_run, no_run}
use Rattle.sample_aux.proofs.sample_data.by_run.Goals as goal

pub loop-i-preserved : goal.loop-i-preserved
loop-i-preserved c =
    let here = drop_item c.args.runs.now c.loop-i.i c.index-runs-i.result c.loop-i-test.true c.index-runs-i.is in
    let first = c.loop-i.first in
    let end : first + c.from.result ≡ first + c.index-runs-i.result.count = ap (λ (n : ℕ). first + n) c.from.ensures in
    let small : c.index-runs-i.result.count < 2 ^ 32 = search rules in
    let few = c.loop-i.invariant.few in
    record {
      so_far = rw (c.in_ok-extend_from_slice.ensures.ok, c.as_slice.ensures) (one_run c.args.saiz.now c.args.base.at c.args.offsets.now c.loop-i.i first (first + c.from.result) c.index-runs-i.result (drop (c.loop-i.i + 1) c.args.runs.now) c.loop-i.all c.in_ok-ranges.ranges _ end (rw c.offset_of-offset.ensures at c.in_ok-ranges.ensures) (rw here at c.loop-i.invariant.so_far));
      few = omega (arith, few, small, end);
    }

pub returns : goal.returns
returns c =
    let past = drop_all c.loop-i.i c.args.runs.now c.loop-i-test.false in
    no_run c.args.saiz.now c.args.base.at c.args.offsets.now c.loop-i.i c.loop-i.first c.loop-i.all _ (rw past at c.loop-i.invariant.so_far)

use Rattle.std.proofs.Common.{inr}
use Rattle.std.proofs.lemmas.Result.{err_from_is_err_and}
use Rattle.iso_boxes.specs.Reading.{repeated}
use Rattle.iso_boxes.proofs.Repeating.{one_more, broken_off, finished}
use Rattle.prot_boxes.specs.Saio.{offset}
use Rattle.prot_boxes.proofs.saio.read_offsets.Goals as goal

pub returns-in_err-offset : goal.returns-in_err-offset
returns-in_err-offset c =
    let p = err_from_is_err_and c.from_residual.result c.from_residual.ensures.1 in
    rw (p.1, p.2) (inr (broken_off (offset c.args.version) c.loop.offsets c.args.count c.loop.counter c.loop.rest.now c.in_err-offset.field-0.0 (repeated c.args.count (offset c.args.version) c.args.bytes.now) c.loop-test.true c.in_err-offset.ensures c.loop.invariant))

pub loop-preserved : goal.loop-preserved
loop-preserved c =
    rw c.in_ok-push.ensures.ok (one_more (offset c.args.version) c.loop.offsets c.args.count c.loop.counter c.loop.rest.now c.in_ok-offset.offset c.in_ok-offset.after.now (repeated c.args.count (offset c.args.version) c.args.bytes.now) c.loop-test.true c.in_ok-offset.ensures c.loop.invariant)

pub returns : goal.returns
returns c = finished (offset c.args.version) c.loop.offsets c.args.count c.loop.counter c.loop.rest.now (repeated c.args.count (offset c.args.version) c.args.bytes.now) c.loop-test.false c.loop.invariant

use Rattle.std.proofs.Common.{inr}
use Rattle.std.proofs.lemmas.Result.{err_from_is_err_and}
use Rattle.iso_boxes.specs.Reading.{repeated}
use Rattle.iso_boxes.proofs.Repeating.{one_more, broken_off, finished}
use Rattle.prot_boxes.specs.Sgpd.{entry}
use Rattle.prot_boxes.proofs.sgpd.read_list.Goals as goal

pub returns-in_err-seig : goal.returns-in_err-seig
returns-in_err-seig c =
    let p = err_from_is_err_and c.from_residual.result c.from_residual.ensures.1 in
    rw (p.1, p.2) (inr (broken_off (entry c.args.default) c.loop.seigs c.args.count c.loop.counter c.loop.rest.now c.in_err-seig.field-0.0 (repeated c.args.count (entry c.args.default) c.args.bytes.now) c.loop-test.true c.in_err-seig.ensures c.loop.invariant))

pub loop-preserved : goal.loop-preserved
loop-preserved c =
    rw c.in_ok-push.ensures.ok (one_more (entry c.args.default) c.loop.seigs c.args.count c.loop.counter c.loop.rest.now c.in_ok-seig.seig c.in_ok-seig.after.now (repeated c.args.count (entry c.args.default) c.args.bytes.now) c.loop-test.true c.in_ok-seig.ensures c.loop.invariant)

pub returns : goal.returns
returns c = finished (entry c.args.default) c.loop.seigs c.args.count c.loop.counter c.loop.rest.now (repeated c.args.count (entry c.args.default) c.args.bytes.now) c.loop-test.false c.loop.invariant

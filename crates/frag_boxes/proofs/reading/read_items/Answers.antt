use Rattle.std.proofs.Common.{inl, inr}
use Rattle.std.proofs.lemmas.Result.{err_from_is_err_and}
use Rattle.iso_boxes.specs.Reading.{repeated}
use Rattle.iso_boxes.proofs.Repeating.{one_more, broken_off, finished}
use Rattle.frag_boxes.specs.Fields.{item}
use Rattle.frag_boxes.proofs.reading.read_items.Goals as goal

pub returns-in_err-item : goal.returns-in_err-item
returns-in_err-item c =
    let p = err_from_is_err_and c.from_residual.result c.from_residual.ensures.1 in
    rw (p.1, p.2) (elim c.in_err-item.ensures [
      | inl m ↦ inl m
      | inr e ↦ inr (broken_off (item c.args.flags) c.loop.items c.args.count c.loop.counter c.loop.rest.now c.in_err-item.field-0.0 (repeated c.args.count (item c.args.flags) c.args.bytes.now) c.loop-test.true e c.loop.invariant)
    ])

pub loop-preserved : goal.loop-preserved
loop-preserved c =
    rw c.in_ok-push.ensures.ok (one_more (item c.args.flags) c.loop.items c.args.count c.loop.counter c.loop.rest.now c.in_ok-item.item c.in_ok-item.after.now (repeated c.args.count (item c.args.flags) c.args.bytes.now) c.loop-test.true c.in_ok-item.ensures c.loop.invariant)

pub returns : goal.returns
returns c = finished (item c.args.flags) c.loop.items c.args.count c.loop.counter c.loop.rest.now (repeated c.args.count (item c.args.flags) c.args.bytes.now) c.loop-test.false c.loop.invariant

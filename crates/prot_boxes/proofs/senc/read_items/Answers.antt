use Rattle.std.proofs.Common.{◌+◌, drop, get_or, inl, inr}
use Rattle.std.proofs.lemmas.Result.{err_from_is_err_and}
use Rattle.std.proofs.lemmas.List.{drop_all, drop_more}
use Rattle.iso_boxes.specs.Reading.{one_each}
use Rattle.iso_boxes.proofs.Repeating.{each_more, each_broken, each_finished}
use Rattle.prot_boxes.specs.Senc.{item}
use Rattle.prot_boxes.proofs.senc.read_items.Goals as goal

pub returns-in_err-item : goal.returns-in_err-item
returns-in_err-item c =
    let p = err_from_is_err_and c.from_residual.result c.from_residual.ensures.1 in
    let here = drop_more c.args.sizes.now c.loop-size.size-index 0 c.loop-size-test.true in
    rw (p.1, p.2) (elim c.in_err-item.ensures [
      | inl m ↦ inl m
      | inr e ↦ inr (each_broken (item c.args.flag2) c.loop-size.items (get_or c.args.sizes.now c.loop-size.size-index 0) (drop (c.loop-size.size-index + 1) c.args.sizes.now) c.loop-size.rest.now c.in_err-item.field-0.0 (one_each (item c.args.flag2) c.args.sizes.now c.args.bytes.now) e (rw here at c.loop-size.invariant))
    ])

pub loop-size-preserved : goal.loop-size-preserved
loop-size-preserved c =
    let here = drop_more c.args.sizes.now c.loop-size.size-index 0 c.loop-size-test.true in
    rw c.in_ok-push.ensures.ok (each_more (item c.args.flag2) c.loop-size.items (get_or c.args.sizes.now c.loop-size.size-index 0) (drop (c.loop-size.size-index + 1) c.args.sizes.now) c.loop-size.rest.now c.in_ok-item.item c.in_ok-item.after.now (one_each (item c.args.flag2) c.args.sizes.now c.args.bytes.now) c.in_ok-item.ensures (rw here at c.loop-size.invariant))

pub returns : goal.returns
returns c =
    let past = drop_all c.loop-size.size-index c.args.sizes.now c.loop-size-test.false in
    each_finished (item c.args.flag2) c.loop-size.items c.loop-size.rest.now (one_each (item c.args.flag2) c.args.sizes.now c.args.bytes.now) (rw past at c.loop-size.invariant)

use Rattle.std.proofs.Common.{◌+◌, drop, get_or, Ok, Err, inl, inr}
use Rattle.std.proofs.lemmas.Result.{err_from_is_err_and}
use Rattle.std.proofs.lemmas.List.{drop_all, drop_more}
use Rattle.frag_boxes.specs.declared.records.Span.{Span}
use Rattle.sample_aux.specs.Spans.{box_at, boxes_at}
use Rattle.sample_aux.proofs.Given.{found_here, not_here, broken_here, none_given, of_box}
use Rattle.sample_aux.proofs.first.first_given.Goals as goal

abbrev no_span : Span
no_span = record { place = 0; body_place = 0; len = 0 }

pub returns-in_err-given : goal.returns-in_err-given
returns-in_err-given g c =
    let p = err_from_is_err_and c.from_residual.result c.from_residual.ensures.1 in
    let here = drop_more c.args.spans.now c.loop-span.span-index no_span c.loop-span-test.true in
    let read = g.R.BoxReader.gives c.args.reader.now in
    let b = box_at c.args.file.now (get_or c.args.spans.now c.loop-span.span-index no_span) in
    let bs = boxes_at c.args.file.now (drop (c.loop-span.span-index + 1) c.args.spans.now) in
    rw (p.1, p.2) (elim c.in_err-given.ensures [
      | inl m ↦ inl m
      | inr e ↦ inr (broken_here read b bs c.in_err-given.field-0.0 _ (of_box read _ _ (Err c.in_err-given.field-0.0) c.box_at.ensures.box_ e) (rw here at c.loop-span.invariant))
    ])

pub returns-then-is_some : goal.returns-then-is_some
returns-then-is_some g c =
    let here = drop_more c.args.spans.now c.loop-span.span-index no_span c.loop-span-test.true in
    let read = g.R.BoxReader.gives c.args.reader.now in
    let b = box_at c.args.file.now (get_or c.args.spans.now c.loop-span.span-index no_span) in
    let bs = boxes_at c.args.file.now (drop (c.loop-span.span-index + 1) c.args.spans.now) in
    found_here read b bs c.in_ok-given.given _ (rw c.is_some.ensures at c.if-is_some.true) (of_box read _ _ (Ok c.in_ok-given.given) c.box_at.ensures.box_ c.in_ok-given.ensures) (rw here at c.loop-span.invariant)

pub loop-span-preserved : goal.loop-span-preserved
loop-span-preserved g c =
    let here = drop_more c.args.spans.now c.loop-span.span-index no_span c.loop-span-test.true in
    let read = g.R.BoxReader.gives c.args.reader.now in
    let b = box_at c.args.file.now (get_or c.args.spans.now c.loop-span.span-index no_span) in
    let bs = boxes_at c.args.file.now (drop (c.loop-span.span-index + 1) c.args.spans.now) in
    not_here read b bs c.in_ok-given.given _ (rw c.is_some.ensures at c.if-is_some.false) (of_box read _ _ (Ok c.in_ok-given.given) c.box_at.ensures.box_ c.in_ok-given.ensures) (rw here at c.loop-span.invariant)

pub returns : goal.returns
returns g c =
    let past = drop_all c.loop-span.span-index c.args.spans.now c.loop-span-test.false in
    none_given (g.R.BoxReader.gives c.args.reader.now) _ (rw past at c.loop-span.invariant)

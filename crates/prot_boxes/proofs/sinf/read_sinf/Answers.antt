use Rattle.std.proofs.Common.{sym}
use Rattle.std.proofs.lemmas.Result.{err_from_is_err_and}
use Rattle.iso_boxes.specs.Walk.{found, boxes_left}
use Rattle.iso_boxes.proofs.Gathering.{ends_broken, goes_on}
use Rattle.prot_boxes.specs.Sinf.{sinf_at}
use Rattle.prot_boxes.proofs.SinfGathered.{sinf_reader, sinf_gathers, sinf_starts, sinf_ends, broken_part}
use Rattle.prot_boxes.proofs.sinf.read_sinf.Goals as goal

pub loop-inner-init : goal.loop-inner-init
loop-inner-init c = rw c.new-boxes.ensures (sinf_starts (found c.args.at.now))

pub returns-in_err-inner : goal.returns-in_err-inner
returns-in_err-inner c =
    let p = err_from_is_err_and c.from_residual.result c.from_residual.ensures.1 in
    rw (p.1, p.2) (sym (ends_broken (sinf_reader c.args.at.now.place) c.loop-inner.parts (boxes_left c.loop-inner.boxes) _ (sinf_at (found c.args.at.now)) c.in_err-inner.ensures.walks c.loop-inner.invariant))

pub returns-in_err-part : goal.returns-in_err-part
returns-in_err-part c =
    let p = err_from_is_err_and c.from_residual-in_err-part.result c.from_residual-in_err-part.ensures.1 in
    rw (p.1, p.2) (sym (broken_part c.args.at.now.place c.loop-inner.parts (found c.in-Some.inner) (boxes_left c.loop-inner.boxes) (boxes_left c.next_box.new.self) (sinf_at (found c.args.at.now)) c.in_err-part.field-0.0 (rw c.in-Some.is at c.in_ok-inner.ensures.walks) (sym (rw (c.is_some.ensures, c.is_some-in-Some.ensures) at c.in_err-part.ensures)) c.loop-inner.invariant))

pub loop-inner-preserved : goal.loop-inner-preserved
loop-inner-preserved c =
    let r = sinf_reader c.args.at.now.place in
    rw c.add.ensures (goes_on r (sinf_gathers c.args.at.now.place) c.loop-inner.parts c.in_ok-part.part (found c.in-Some.inner) (boxes_left c.loop-inner.boxes) (boxes_left c.next_box.new.self) (sinf_at (found c.args.at.now)) (rw c.in-Some.is at c.in_ok-inner.ensures.walks) (sym (rw (c.is_some.ensures, c.is_some-in-Some.ensures) at c.in_ok-part.ensures)) c.loop-inner.invariant)

pub returns : goal.returns
returns c =
    let e = sinf_ends c.args.at.now.place c.loop-inner.parts (boxes_left c.loop-inner.boxes) (sinf_at (found c.args.at.now)) (rw c.in_default.is at c.in_ok-inner.ensures.walks) c.loop-inner.invariant in
    rw e c.sinf_of.ensures

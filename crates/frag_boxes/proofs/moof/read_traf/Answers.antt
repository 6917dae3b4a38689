use Rattle.std.proofs.Common.{◌≡◌, inr}
use Rattle.std.proofs.lemmas.Result.{err_from_is_err_and}
use Rattle.iso_boxes.specs.Walk.{found, boxes_left}
use Rattle.iso_boxes.proofs.Gathering.{ends_broken, goes_on, stops}
use Rattle.frag_boxes.specs.Moof.{traf_at}
use Rattle.frag_boxes.specs.declared.fault.FragKind.TheVariants.{OutOfMemory}
use Rattle.frag_boxes.proofs.Leaving.{traf_reader, traf_gathers, traf_starts, traf_ends}
use Rattle.frag_boxes.proofs.moof.read_traf.Goals as goal

pub loop-parts-init : goal.loop-parts-init
loop-parts-init c = rw (c.new-parts.ensures, c.new-boxes.ensures) (traf_starts (found c.args.at.now))

pub returns-in_err-inner : goal.returns-in_err-inner
returns-in_err-inner c =
    let p = err_from_is_err_and c.from_residual.result c.from_residual.ensures.1 in
    rw (p.1, p.2) (inr (ends_broken (traf_reader c.args.at.now.place) c.loop-parts.parts (boxes_left c.loop-parts.boxes) _ (traf_at (found c.args.at.now)) c.in_err-inner.ensures.walks c.loop-parts.invariant))

pub returns-in_err-part : goal.returns-in_err-part
returns-in_err-part c =
    let r = traf_reader c.args.at.now.place in
    let p = err_from_is_err_and c.from_residual-in_err-part.result c.from_residual-in_err-part.ensures.1 in
    rw (p.1, p.2) (stops r (traf_gathers c.args.at.now.place) (c.in_err-part.field-0.0.kind ≡ OutOfMemory) c.loop-parts.parts (found c.in-Some.inner) (boxes_left c.loop-parts.boxes) (boxes_left c.next_box.new.self) (traf_at (found c.args.at.now)) c.in_err-part.field-0.0 (rw c.in-Some.is at c.in_ok-inner.ensures.walks) (rw c.is_some.ensures at c.in_err-part.ensures) c.loop-parts.invariant)

pub loop-parts-preserved : goal.loop-parts-preserved
loop-parts-preserved c =
    let r = traf_reader c.args.at.now.place in
    rw c.in_ok-add.ensures (goes_on r (traf_gathers c.args.at.now.place) c.loop-parts.parts c.in_ok-part.part (found c.in-Some.inner) (boxes_left c.loop-parts.boxes) (boxes_left c.next_box.new.self) (traf_at (found c.args.at.now)) (rw c.in-Some.is at c.in_ok-inner.ensures.walks) (rw c.is_some.ensures at c.in_ok-part.ensures) c.loop-parts.invariant)

pub returns-in-Some-tfhd : goal.returns-in-Some-tfhd
returns-in-Some-tfhd c =
    let e = traf_ends c.args.at.now.place c.loop-parts.parts (boxes_left c.loop-parts.boxes) (traf_at (found c.args.at.now)) (rw c.in_default.is at c.in_ok-inner.ensures.walks) c.loop-parts.invariant in
    rw c.in-Some-tfhd.is at e

pub returns-in-None : goal.returns-in-None
returns-in-None c =
    let e = traf_ends c.args.at.now.place c.loop-parts.parts (boxes_left c.loop-parts.boxes) (traf_at (found c.args.at.now)) (rw c.in_default.is at c.in_ok-inner.ensures.walks) c.loop-parts.invariant in
    inr (rw c.in-None.is at e)

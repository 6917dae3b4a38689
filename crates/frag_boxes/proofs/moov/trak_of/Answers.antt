use Rattle.std.proofs.Common.{◌≡◌, inr}
use Rattle.std.proofs.lemmas.Result.{err_from_is_err_and}
use Rattle.iso_boxes.specs.Walk.{found, boxes_left}
use Rattle.iso_boxes.proofs.Gathering.{ends_broken, goes_on, stops}
use Rattle.frag_boxes.specs.Moov.{trak_at}
use Rattle.frag_boxes.specs.declared.fault.FragKind.TheVariants.{OutOfMemory}
use Rattle.frag_boxes.proofs.MoovLeaving.{trak_reader, trak_gathers, trak_starts, trak_ends}
use Rattle.frag_boxes.proofs.moov.trak_of.Goals as goal

pub loop-parts-init : goal.loop-parts-init
loop-parts-init c = rw c.new-boxes.ensures (trak_starts c.args.tracks.now (found c.args.at.now))

pub returns-in_err-inner : goal.returns-in_err-inner
returns-in_err-inner c =
    let p = err_from_is_err_and c.from_residual.result c.from_residual.ensures.1 in
    rw (p.1, p.2) (inr (ends_broken (trak_reader c.args.tracks.now c.args.at.now.place) c.loop-parts.parts (boxes_left c.loop-parts.boxes) _ (trak_at c.args.tracks.now (found c.args.at.now)) c.in_err-inner.ensures.walks c.loop-parts.invariant))

pub returns-in_err-part : goal.returns-in_err-part
returns-in_err-part c =
    let r = trak_reader c.args.tracks.now c.args.at.now.place in
    let p = err_from_is_err_and c.from_residual-in_err-part.result c.from_residual-in_err-part.ensures.1 in
    rw (p.1, p.2) (stops r (trak_gathers c.args.tracks.now c.args.at.now.place) (c.in_err-part.field-0.0.kind ≡ OutOfMemory) c.loop-parts.parts (found c.in-Some.inner) (boxes_left c.loop-parts.boxes) (boxes_left c.next_box.new.self) (trak_at c.args.tracks.now (found c.args.at.now)) c.in_err-part.field-0.0 (rw c.in-Some.is at c.in_ok-inner.ensures.walks) (rw (c.is_some.ensures, c.is_some-in-Some.ensures) at c.in_err-part.ensures) c.loop-parts.invariant)

pub loop-parts-preserved : goal.loop-parts-preserved
loop-parts-preserved c =
    let r = trak_reader c.args.tracks.now c.args.at.now.place in
    rw c.add.ensures (goes_on r (trak_gathers c.args.tracks.now c.args.at.now.place) c.loop-parts.parts c.in_ok-part.part (found c.in-Some.inner) (boxes_left c.loop-parts.boxes) (boxes_left c.next_box.new.self) (trak_at c.args.tracks.now (found c.args.at.now)) (rw c.in-Some.is at c.in_ok-inner.ensures.walks) (rw (c.is_some.ensures, c.is_some-in-Some.ensures) at c.in_ok-part.ensures) c.loop-parts.invariant)

pub returns-in-Some-id : goal.returns-in-Some-id
returns-in-Some-id c =
    let e = trak_ends c.args.tracks.now c.args.at.now.place c.loop-parts.parts (boxes_left c.loop-parts.boxes) (trak_at c.args.tracks.now (found c.args.at.now)) (rw c.in_default.is at c.in_ok-inner.ensures.walks) c.loop-parts.invariant in
    rw c.table_or_none-table.ensures (rw c.in-Some-id.is at e)

pub returns-in-None : goal.returns-in-None
returns-in-None c =
    let e = trak_ends c.args.tracks.now c.args.at.now.place c.loop-parts.parts (boxes_left c.loop-parts.boxes) (trak_at c.args.tracks.now (found c.args.at.now)) (rw c.in_default.is at c.in_ok-inner.ensures.walks) c.loop-parts.invariant in
    inr (rw c.in-None.is at e)

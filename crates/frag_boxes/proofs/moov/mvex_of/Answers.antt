use Rattle.std.proofs.Common.{◌≡◌, inr}
use Rattle.std.proofs.lemmas.Result.{err_from_is_err_and}
use Rattle.iso_boxes.specs.Walk.{found, boxes_left}
use Rattle.iso_boxes.proofs.Gathering.{ends_broken, goes_on, stops}
use Rattle.frag_boxes.specs.Moov.{mvex_at}
use Rattle.frag_boxes.specs.declared.fault.FragKind.TheVariants.{OutOfMemory}
use Rattle.frag_boxes.proofs.MoovLeaving.{mvex_reader, mvex_gathers, mvex_starts, mvex_ends}
use Rattle.frag_boxes.proofs.moov.mvex_of.Goals as goal

pub loop-parts-init : goal.loop-parts-init
loop-parts-init c = rw (c.new-parts.ensures, c.new-boxes.ensures) (mvex_starts (found c.args.at.now))

pub returns-in_err-inner : goal.returns-in_err-inner
returns-in_err-inner c =
    let p = err_from_is_err_and c.from_residual.result c.from_residual.ensures.1 in
    rw (p.1, p.2) (inr (ends_broken mvex_reader c.loop-parts.parts (boxes_left c.loop-parts.boxes) _ (mvex_at (found c.args.at.now)) c.in_err-inner.ensures.walks c.loop-parts.invariant))

pub returns-in_err-part : goal.returns-in_err-part
returns-in_err-part c =
    let r = mvex_reader in
    let p = err_from_is_err_and c.from_residual-in_err-part.result c.from_residual-in_err-part.ensures.1 in
    rw (p.1, p.2) (stops r mvex_gathers (c.in_err-part.field-0.0.kind ≡ OutOfMemory) c.loop-parts.parts (found c.in-Some.inner) (boxes_left c.loop-parts.boxes) (boxes_left c.next_box.new.self) (mvex_at (found c.args.at.now)) c.in_err-part.field-0.0 (rw c.in-Some.is at c.in_ok-inner.ensures.walks) c.in_err-part.ensures c.loop-parts.invariant)

pub loop-parts-preserved : goal.loop-parts-preserved
loop-parts-preserved c =
    let r = mvex_reader in
    rw c.in_ok-push_trex.ensures (goes_on r mvex_gathers c.loop-parts.parts c.in_ok-part.part (found c.in-Some.inner) (boxes_left c.loop-parts.boxes) (boxes_left c.next_box.new.self) (mvex_at (found c.args.at.now)) (rw c.in-Some.is at c.in_ok-inner.ensures.walks) c.in_ok-part.ensures c.loop-parts.invariant)

pub returns : goal.returns
returns c = mvex_ends c.loop-parts.parts (boxes_left c.loop-parts.boxes) (mvex_at (found c.args.at.now)) (rw c.in_default.is at c.in_ok-inner.ensures.walks) c.loop-parts.invariant

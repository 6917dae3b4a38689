use Rattle.std.proofs.Common.{◌≡◌, inr}
use Rattle.std.proofs.lemmas.Result.{err_from_is_err_and}
use Rattle.iso_boxes.specs.Walk.{found, boxes_left}
use Rattle.iso_boxes.proofs.Gathering.{ends_broken, goes_on, stops}
use Rattle.frag_boxes.specs.Table.{stbl_at}
use Rattle.frag_boxes.specs.declared.fault.FragKind.TheVariants.{OutOfMemory}
use Rattle.frag_boxes.proofs.TableLeaving.{stbl_reader, stbl_gathers, stbl_starts, stbl_ends}
use Rattle.frag_boxes.proofs.table.stbl_of.Goals as goal

pub loop-parts-init : goal.loop-parts-init
loop-parts-init c = rw (c.new.ensures, c.new-boxes.ensures) (stbl_starts (found c.args.at.now))

pub returns-in_err-inner : goal.returns-in_err-inner
returns-in_err-inner c =
    let p = err_from_is_err_and c.from_residual.result c.from_residual.ensures.1 in
    rw (p.1, p.2) (inr (ends_broken stbl_reader c.loop-parts.parts (boxes_left c.loop-parts.boxes) _ (stbl_at (found c.args.at.now)) c.in_err-inner.ensures.walks c.loop-parts.invariant))

pub returns-in_err-part : goal.returns-in_err-part
returns-in_err-part c =
    let r = stbl_reader in
    let p = err_from_is_err_and c.from_residual-in_err-part.result c.from_residual-in_err-part.ensures.1 in
    rw (p.1, p.2) (stops r stbl_gathers (c.in_err-part.field-0.0.kind ≡ OutOfMemory) c.loop-parts.parts (found c.in-Some.inner) (boxes_left c.loop-parts.boxes) (boxes_left c.next_box.new.self) (stbl_at (found c.args.at.now)) c.in_err-part.field-0.0 (rw c.in-Some.is at c.in_ok-inner.ensures.walks) (rw c.is_some.ensures at c.in_err-part.ensures) c.loop-parts.invariant)

pub loop-parts-preserved : goal.loop-parts-preserved
loop-parts-preserved c =
    let r = stbl_reader in
    rw c.in_ok-add.ensures (goes_on r stbl_gathers c.loop-parts.parts c.in_ok-part.part (found c.in-Some.inner) (boxes_left c.loop-parts.boxes) (boxes_left c.next_box.new.self) (stbl_at (found c.args.at.now)) (rw c.in-Some.is at c.in_ok-inner.ensures.walks) (rw c.is_some.ensures at c.in_ok-part.ensures) c.loop-parts.invariant)

pub returns : goal.returns
returns c = rw c.entries_or_none.ensures (stbl_ends c.loop-parts.parts (boxes_left c.loop-parts.boxes) (stbl_at (found c.args.at.now)) (rw c.in_default.is at c.in_ok-inner.ensures.walks) c.loop-parts.invariant)

use Rattle.std.proofs.Common.{◌≡◌, inr}
use Rattle.std.proofs.lemmas.Result.{err_from_is_err_and}
use Rattle.iso_boxes.specs.Walk.{found, boxes_left}
use Rattle.frag_boxes.specs.declared.fault.FragKind.TheVariants.{OutOfMemory}
use Rattle.frag_boxes.specs.Table.{entries_at}
use Rattle.frag_boxes.proofs.TableLeaving.{entries_start, entries_off, entry_more, entry_stops, entry_missing, entry_broken, entries_end}
use Rattle.frag_boxes.proofs.table.entries_of.Goals as goal

pub returns-in_err-boxes : goal.returns-in_err-boxes
returns-in_err-boxes c =
    let p = err_from_is_err_and c.from_residual.result c.from_residual.ensures.1 in
    rw (p.1, p.2) (inr (entries_off c.args.count (found c.args.at.now) c.in_err-boxes.field-0.0 c.in_err-boxes.ensures))

pub loop-init : goal.loop-init
loop-init c = rw c.new-entries.ensures (entries_start c.args.count (found c.args.at.now) (boxes_left c.in_ok-boxes.boxes) c.in_ok-boxes.ensures)

pub returns-in_err-inner : goal.returns-in_err-inner
returns-in_err-inner c =
    let p = err_from_is_err_and c.from_residual-in_err-inner.result c.from_residual-in_err-inner.ensures.1 in
    rw (p.1, p.2) (inr (entry_broken c.args.at.now.place c.loop.entries c.args.count c.loop.counter (boxes_left c.loop.boxes) _ (entries_at c.args.count (found c.args.at.now)) c.loop-test.true c.in_err-inner.ensures.walks c.loop.invariant))

pub returns-in_default : goal.returns-in_default
returns-in_default c = inr (entry_missing c.args.at.now.place c.loop.entries c.args.count c.loop.counter (boxes_left c.loop.boxes) (entries_at c.args.count (found c.args.at.now)) c.loop-test.true (rw c.in_default.is at c.in_ok-inner.ensures.walks) c.loop.invariant)

pub returns-in_err-entry : goal.returns-in_err-entry
returns-in_err-entry c =
    let p = err_from_is_err_and c.from_residual-in_err-entry.result c.from_residual-in_err-entry.ensures.1 in
    rw (p.1, p.2) (entry_stops c.args.at.now.place (c.in_err-entry.field-0.0.kind ≡ OutOfMemory) c.loop.entries c.args.count c.loop.counter (found c.in-Some.inner) (boxes_left c.loop.boxes) (boxes_left c.next_box.new.self) c.in_err-entry.field-0.0 (entries_at c.args.count (found c.args.at.now)) c.loop-test.true (rw c.in-Some.is at c.in_ok-inner.ensures.walks) c.in_err-entry.ensures c.loop.invariant)

pub loop-preserved : goal.loop-preserved
loop-preserved c =
    rw c.in_ok-push.ensures.ok (entry_more c.args.at.now.place c.loop.entries c.args.count c.loop.counter (found c.in-Some.inner) (boxes_left c.loop.boxes) (boxes_left c.next_box.new.self) c.in_ok-entry.entry (entries_at c.args.count (found c.args.at.now)) c.loop-test.true (rw c.in-Some.is at c.in_ok-inner.ensures.walks) c.in_ok-entry.ensures c.loop.invariant)

pub returns : goal.returns
returns c = entries_end c.args.at.now.place c.loop.entries c.args.count c.loop.counter (boxes_left c.loop.boxes) (entries_at c.args.count (found c.args.at.now)) c.loop-test.false c.loop.invariant

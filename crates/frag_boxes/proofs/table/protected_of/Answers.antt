use Rattle.std.proofs.Common.{inr, refl, sym, ◌∙◌}
use Rattle.std.proofs.lemmas.Result.{err_from_is_err_and}
use Rattle.iso_boxes.specs.Walk.{found, boxes_left}
use Rattle.iso_boxes.proofs.Gathering.{ends_broken, goes_on}
use Rattle.frag_boxes.specs.Table.{sinf_part, protected_at}
use Rattle.frag_boxes.proofs.TableLeaving.{sinf_reader, sinf_gathers, sinf_ends, protected_start, protected_off, gives_same}
use Rattle.frag_boxes.proofs.table.protected_of.Goals as goal

pub returns-in_err-boxes : goal.returns-in_err-boxes
returns-in_err-boxes c =
    let p = err_from_is_err_and c.from_residual.result c.from_residual.ensures.1 in
    rw (p.1, p.2) (inr (protected_off c.args.fields (found c.args.at.now) c.in_err-boxes.field-0.0 c.in_err-boxes.ensures))

pub loop-parts-init : goal.loop-parts-init
loop-parts-init c = rw c.new-parts.ensures (protected_start c.args.fields (found c.args.at.now) (boxes_left c.in_ok-boxes.boxes) c.in_ok-boxes.ensures)

pub returns-in_err-inner : goal.returns-in_err-inner
returns-in_err-inner c =
    let p = err_from_is_err_and c.from_residual-in_err-inner.result c.from_residual-in_err-inner.ensures.1 in
    rw (p.1, p.2) (inr (ends_broken (sinf_reader c.args.at.now.place) c.loop-parts.parts (boxes_left c.loop-parts.boxes) _ (protected_at c.args.fields (found c.args.at.now)) c.in_err-inner.ensures.walks c.loop-parts.invariant))

pub loop-parts-preserved : goal.loop-parts-preserved
loop-parts-preserved c =
    let r = sinf_reader c.args.at.now.place in
    rw (c.in_ok-push_some.ensures, c.sinf_part.ensures) (goes_on r (sinf_gathers c.args.at.now.place) c.loop-parts.parts (sinf_part (found c.in-Some.inner)) (found c.in-Some.inner) (boxes_left c.loop-parts.boxes) (boxes_left c.next_box.new.self) (protected_at c.args.fields (found c.args.at.now)) (rw c.in-Some.is at c.in_ok-inner.ensures.walks) refl c.loop-parts.invariant)

pub returns : goal.returns
returns c =
    let e = sinf_ends c.args.at.now.place c.loop-parts.parts (boxes_left c.loop-parts.boxes) (protected_at c.args.fields (found c.args.at.now)) (rw c.in_default.is at c.in_ok-inner.ensures.walks) c.loop-parts.invariant in
    gives_same c.entry_from.result (protected_at c.args.fields (found c.args.at.now)) (e ∙ sym c.entry_from.ensures)

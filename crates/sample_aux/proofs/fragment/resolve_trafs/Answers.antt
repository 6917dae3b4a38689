use Rattle.std.proofs.Common.{◌+◌, drop, inl, inr}
use Rattle.std.proofs.lemmas.Result.{err_from_is_err_and}
use Rattle.std.proofs.lemmas.List.{drop_all}
use Rattle.sample_aux.proofs.Runs.{drop_item}
use Rattle.sample_aux.proofs.Parts.{one_more, broken_off, finished}
use Rattle.sample_aux.proofs.Near.{traf_near}
use Rattle.sample_aux.proofs.fragment.resolve_trafs.Goals as goal

pub returns-in_err-part : goal.returns-in_err-part
returns-in_err-part c =
    let p = err_from_is_err_and c.from_residual.result c.from_residual.ensures.1 in
    let here = drop_item c.args.trafs.now c.loop-traf.traf-index c.traf-item.result c.loop-traf-test.true c.traf-item.is in
    rw (p.1, p.2) (elim c.in_err-part.ensures.gives [
      | inl m ↦ inl m
      | inr e ↦ inr (broken_off c.args.file.now c.args.known.now c.args.start c.loop-traf.cursor c.traf-item.result (drop (c.loop-traf.traf-index + 1) c.args.trafs.now) c.loop-traf.parts.items c.in_err-part.field-0.0 _ e (rw here at c.loop-traf.invariant.so_far))
    ])

pub loop-traf-preserved : goal.loop-traf-preserved
loop-traf-preserved c =
    let here = drop_item c.args.trafs.now c.loop-traf.traf-index c.traf-item.result c.loop-traf-test.true c.traf-item.is in
    record {
      so_far = rw c.in_ok-joined.ensures (one_more c.args.file.now c.args.known.now c.args.start c.loop-traf.cursor c.traf-item.result (drop (c.loop-traf.traf-index + 1) c.args.trafs.now) c.loop-traf.parts.items c.in_ok-part.part c.in_ok-part.next _ c.in_ok-part.ensures.gives (rw here at c.loop-traf.invariant.so_far));
      near = traf_near c.loop-traf.traf-index c.loop-traf.cursor.at c.in_ok-part.next.at c.in_ok-part.ensures.near c.loop-traf.invariant.near;
    }

pub returns : goal.returns
returns c =
    let past = drop_all c.loop-traf.traf-index c.args.trafs.now c.loop-traf-test.false in
    finished c.args.file.now c.args.known.now c.args.start c.loop-traf.cursor c.loop-traf.parts.items _ (rw past at c.loop-traf.invariant.so_far)

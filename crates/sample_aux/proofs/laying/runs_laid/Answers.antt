use Rattle.std.proofs.Common.{◌+◌, drop, inl, inr}
use Rattle.std.proofs.lemmas.Result.{err_from_is_err_and}
use Rattle.std.proofs.lemmas.List.{drop_all}
use Rattle.sample_aux.specs.Laying.{runs_laid}
use Rattle.sample_aux.proofs.Runs.{one_more, broken_off, finished, drop_item}
use Rattle.sample_aux.proofs.Near.{run_near}
use Rattle.sample_aux.proofs.laying.runs_laid.Goals as goal

pub returns-in_err-ranges-clause-gives : goal.returns-in_err-ranges-clause-gives
returns-in_err-ranges-clause-gives c =
    let p = err_from_is_err_and c.from_residual.result c.from_residual.ensures.1 in
    let here = drop_item c.args.runs.now c.loop-run.run-index c.run-item.result c.loop-run-test.true c.run-item.is in
    let total = runs_laid c.args.end c.args.default c.args.base.at c.args.base c.args.runs.now in
    rw (p.1, p.2) (elim c.in_err-ranges.ensures.gives [
      | inl m ↦ inl m
      | inr e ↦ inr (broken_off c.args.end c.args.default c.args.base.at c.loop-run.cursor c.run-item.result (drop (c.loop-run.run-index + 1) c.args.runs.now) c.loop-run.all c.in_err-ranges.field-0.0 total (rw c.begun-begin.ensures.value at e) (rw here at c.loop-run.invariant.so_far))
    ])

pub loop-run-preserved : goal.loop-run-preserved
loop-run-preserved c =
    let here = drop_item c.args.runs.now c.loop-run.run-index c.run-item.result c.loop-run-test.true c.run-item.is in
    let total = runs_laid c.args.end c.args.default c.args.base.at c.args.base c.args.runs.now in
    record {
      so_far = rw (c.in_ok-extend_from_slice.ensures.ok, c.as_slice.ensures) (one_more c.args.end c.args.default c.args.base.at c.loop-run.cursor c.run-item.result (drop (c.loop-run.run-index + 1) c.args.runs.now) c.loop-run.all c.in_ok-ranges.ranges c.in_ok-ranges.next total (rw c.begun-begin.ensures.value at c.in_ok-ranges.ensures.gives) (rw here at c.loop-run.invariant.so_far));
      near = run_near c.args.base.at c.loop-run.cursor.at c.begun-begin.result.at c.in_ok-ranges.next.at c.loop-run.invariant.near c.begun-begin.ensures.near c.in_ok-ranges.ensures.near;
    }

pub returns-clause-gives : goal.returns-clause-gives
returns-clause-gives c =
    let total = runs_laid c.args.end c.args.default c.args.base.at c.args.base c.args.runs.now in
    let past = drop_all c.loop-run.run-index c.args.runs.now c.loop-run-test.false in
    finished c.args.end c.args.default c.args.base.at c.loop-run.cursor c.loop-run.all total (rw past at c.loop-run.invariant.so_far)

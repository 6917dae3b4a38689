use Rattle.std.proofs.Common.{◌+◌, drop, inl, inr}
use Rattle.std.proofs.lemmas.Result.{err_from_is_err_and}
use Rattle.std.proofs.lemmas.List.{drop_all}
use Rattle.eme_types.specs.declared.sample.EncSample.{EncSample}
use Rattle.sample_aux.specs.Resolve.{sample_passes}
use Rattle.sample_aux.proofs.Runs.{drop_item}
use Rattle.sample_aux.proofs.Passes.{one_more, broken_off, finished}
use Rattle.sample_aux.proofs.samples.check_samples.Goals as goal

pub returns-in_err-check_whole : goal.returns-in_err-check_whole
returns-in_err-check_whole c =
    let p = err_from_is_err_and c.from_residual.result c.from_residual.ensures.1 in
    let here = drop_item c.args.samples.now c.loop-sample.sample-index c.sample-item.result c.loop-sample-test.true c.sample-item.is in
    rw (p.1, p.2) (elim c.in_err-check_whole.ensures [
      | inl m ↦ inl m
      | inr e ↦ inr (broken_off (λ (x : EncSample). sample_passes c.args.senc c.args.traf x) c.sample-item.result (drop (c.loop-sample.sample-index + 1) c.args.samples.now) c.in_err-check_whole.field-0.0 _ e (rw here at c.loop-sample.invariant))
    ])

pub loop-sample-preserved : goal.loop-sample-preserved
loop-sample-preserved c =
    let here = drop_item c.args.samples.now c.loop-sample.sample-index c.sample-item.result c.loop-sample-test.true c.sample-item.is in
    one_more (λ (x : EncSample). sample_passes c.args.senc c.args.traf x) c.sample-item.result (drop (c.loop-sample.sample-index + 1) c.args.samples.now) _ c.in_ok-check_whole.ensures (rw here at c.loop-sample.invariant)

pub returns : goal.returns
returns c =
    let past = drop_all c.loop-sample.sample-index c.args.samples.now c.loop-sample-test.false in
    finished (λ (x : EncSample). sample_passes c.args.senc c.args.traf x) _ (rw past at c.loop-sample.invariant)

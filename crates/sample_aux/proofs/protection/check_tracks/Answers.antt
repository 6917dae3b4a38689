use Rattle.std.proofs.Common.{◌+◌, drop, sym}
use Rattle.std.proofs.lemmas.Result.{err_from_is_err_and}
use Rattle.std.proofs.lemmas.List.{drop_all}
use Rattle.sample_aux.specs.Checked.{protection_passes}
use Rattle.sample_aux.proofs.Runs.{drop_item}
use Rattle.sample_aux.proofs.Passes.{one_more, broken_off, finished}
use Rattle.sample_aux.proofs.protection.check_tracks.Goals as goal

pub returns-in_err-check_track : goal.returns-in_err-check_track
returns-in_err-check_track c =
    let p = err_from_is_err_and c.from_residual.result c.from_residual.ensures.1 in
    let here = drop_item c.args.tracks.now c.loop-track.track-index c.track-item.result c.loop-track-test.true c.track-item.is in
    rw (p.1, p.2) (sym (broken_off protection_passes c.track-item.result (drop (c.loop-track.track-index + 1) c.args.tracks.now) c.in_err-check_track.field-0.0 _ (sym c.in_err-check_track.ensures) (rw here at c.loop-track.invariant)))

pub loop-track-preserved : goal.loop-track-preserved
loop-track-preserved c =
    let here = drop_item c.args.tracks.now c.loop-track.track-index c.track-item.result c.loop-track-test.true c.track-item.is in
    one_more protection_passes c.track-item.result (drop (c.loop-track.track-index + 1) c.args.tracks.now) _ (sym c.in_ok-check_track.ensures) (rw here at c.loop-track.invariant)

pub returns : goal.returns
returns c =
    let past = drop_all c.loop-track.track-index c.args.tracks.now c.loop-track-test.false in
    sym (finished protection_passes _ (rw past at c.loop-track.invariant))

use Rattle.std.proofs.Common.{◌+◌, drop, get_or, None, Ok, sym}
use Rattle.std.proofs.lemmas.Result.{err_from_is_err_and}
use Rattle.std.proofs.lemmas.List.{drop_all, drop_more}
use Rattle.sample_aux.specs.Checked.{part_passes}
use Rattle.sample_aux.proofs.Passes.{one_more, broken_off, finished}
use Rattle.sample_aux.proofs.protection.check_entries.Goals as goal

pub returns-in_err-check_part : goal.returns-in_err-check_part
returns-in_err-check_part c =
    let p = err_from_is_err_and c.from_residual.result c.from_residual.ensures.1 in
    let here = drop_more c.args.entries.now c.loop-told.told-index (Ok None) c.loop-told-test.true in
    rw (p.1, p.2) (sym (broken_off part_passes (get_or c.args.entries.now c.loop-told.told-index (Ok None)) (drop (c.loop-told.told-index + 1) c.args.entries.now) c.in_err-check_part.field-0.0 _ (sym c.in_err-check_part.ensures) (rw here at c.loop-told.invariant)))

pub loop-told-preserved : goal.loop-told-preserved
loop-told-preserved c =
    let here = drop_more c.args.entries.now c.loop-told.told-index (Ok None) c.loop-told-test.true in
    one_more part_passes (get_or c.args.entries.now c.loop-told.told-index (Ok None)) (drop (c.loop-told.told-index + 1) c.args.entries.now) _ (sym c.in_ok-check_part.ensures) (rw here at c.loop-told.invariant)

pub returns : goal.returns
returns c =
    let past = drop_all c.loop-told.told-index c.args.entries.now c.loop-told-test.false in
    sym (finished part_passes _ (rw past at c.loop-told.invariant))

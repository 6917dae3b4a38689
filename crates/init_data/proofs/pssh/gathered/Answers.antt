use Rattle.std.proofs.lemmas.Result.{err_from_is_err_and}
use Rattle.std.proofs.Common.{false, inr}
use Rattle.iso_boxes.specs.Walk.{found, boxes_left, walk}
use Rattle.init_data.proofs.PsshLemmas.{begins_from, goes_on, stops, finishes, breaks}
use Rattle.init_data.proofs.pssh.gathered.Goals as goal

pub walk-init : goal.walk-init
walk-init c = begins_from c.new-list.result (walk c.args.bytes.now 0 false) (boxes_left c.new-boxes.result) c.new-list.ensures c.new-boxes.ensures

pub returns-in_err-pssh-in-Ok-Some-clause-value : goal.returns-in_err-pssh-in-Ok-Some-clause-value
returns-in_err-pssh-in-Ok-Some-clause-value c =
    let p = err_from_is_err_and c.from_residual.result c.from_residual.ensures.1 in
    let steps = rw c.in-Ok-Some.field-0-is at c.in-Ok-Some.ensures.walks in
    rw (p.1, p.2) (stops c.walk.list (found c.in-Ok-Some.at) (boxes_left c.walk.boxes) (boxes_left c.next_box.new.self) _ _ steps c.in_err-pssh-in-Ok-Some.ensures.value c.walk.invariant)

pub walk-preserved : goal.walk-preserved
walk-preserved c =
    let steps = rw c.in-Ok-Some.field-0-is at c.in-Ok-Some.ensures.walks in
    rw c.in_ok-push-in-Ok-Some.ensures.ok
    (goes_on c.walk.list (found c.in-Ok-Some.at) (boxes_left c.walk.boxes) (boxes_left c.next_box.new.self) c.in_ok-pssh-in-Ok-Some.pssh _ steps c.in_ok-pssh-in-Ok-Some.ensures.value c.walk.invariant)

pub returns-in-Ok-None-clause-value : goal.returns-in-Ok-None-clause-value
returns-in-Ok-None-clause-value c =
    let steps = rw c.in-Ok-None.field-0-is at c.in-Ok-None.ensures.walks in
    finishes c.walk.list (boxes_left c.walk.boxes) _ steps c.walk.invariant

pub returns-in-Err-clause-value : goal.returns-in-Err-clause-value
returns-in-Err-clause-value c = inr (breaks c.walk.list (boxes_left c.walk.boxes) c.in-Err.field-0 _ c.in-Err.ensures.walks c.walk.invariant)

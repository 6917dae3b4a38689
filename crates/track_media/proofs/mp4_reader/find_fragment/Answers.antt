use Rattle.std.proofs.Common.{◌≡◌, ◌∙◌, inr}
use Rattle.std.proofs.lemmas.Result.{err_from_is_err_and}
use Rattle.iso_boxes.specs.Walk.{found, boxes_left}
use Rattle.track_media.specs.declared.kind.MediaFault.TheVariants.{OutOfMemory}
use Rattle.track_media.specs.Reader.{refused_next}
use Rattle.track_media.specs.Rests.{walk_coming}
use Rattle.track_media.proofs.ReaderSteps.{box_passed, box_given, box_broken, header_comes, end_comes, broken_on}
use Rattle.track_media.proofs.mp4_reader.find_fragment.Goals as goal

pub returns-in_err-at : goal.returns-in_err-at
returns-in_err-at c =
    let p = err_from_is_err_and c.from_residual.result c.from_residual.ensures.1 in
    rw (p.1, p.2) (inr (c.loop-at.invariant ∙ header_comes c.args.file.now c.args.movie.now c.args.room (boxes_left c.loop-at.boxes) _ c.in_err-at.ensures.walks))

pub returns-in_err-read : goal.returns-in_err-read
returns-in_err-read c =
    let p = err_from_is_err_and c.from_residual-in_err-read.result c.from_residual-in_err-read.ensures.1 in
    let f = c.in_err-read.field-0.0 in
    let memory = f ≡ OutOfMemory in
    let coming = walk_coming c.args.file.now c.args.movie.now c.args.room in
    let here = box_broken memory c.args.file.now c.args.movie.now c.args.room (found c.in-Some.at) (boxes_left c.loop-at.boxes) (boxes_left c.next_box.new.self) f (rw c.in-Some.is at c.in_ok-at.ensures.walks) c.in_err-read.ensures in
    rw (p.1, p.2) (broken_on memory (coming (boxes_left c.args.boxes.now)) (coming (boxes_left c.loop-at.boxes)) (refused_next f) c.loop-at.invariant here)

pub returns-in-Some-read : goal.returns-in-Some-read
returns-in-Some-read c =
    c.loop-at.invariant ∙ box_given c.args.file.now c.args.movie.now c.args.room (found c.in-Some.at) (boxes_left c.loop-at.boxes) (boxes_left c.next_box.new.self) c.in-Some-read.fragment (rw c.in-Some.is at c.in_ok-at.ensures.walks) (rw c.in-Some-read.is at c.in_ok-read.ensures)

pub loop-at-preserved : goal.loop-at-preserved
loop-at-preserved c =
    c.loop-at.invariant ∙ box_passed c.args.file.now c.args.movie.now c.args.room (found c.in-Some.at) (boxes_left c.loop-at.boxes) (boxes_left c.next_box.new.self) (rw c.in-Some.is at c.in_ok-at.ensures.walks) (rw c.in_default-read.is at c.in_ok-read.ensures)

pub returns : goal.returns
returns c =
    let file = c.args.file.now in
    let left = rw c.in_default.is at c.in_ok-at.ensures.walks in
    let same = rw c.in_default.is at c.in_ok-at.ensures.rests in
    let end = end_comes file c.args.movie.now c.args.room (boxes_left c.loop-at.boxes) left in
    (c.loop-at.invariant ∙ end, rw same end)

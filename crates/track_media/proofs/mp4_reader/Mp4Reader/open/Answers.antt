use Rattle.std.proofs.Common.{◌≡◌, ◌∙◌, inr, None}
use Rattle.std.proofs.lemmas.Result.{err_from_is_err_and}
use Rattle.iso_boxes.specs.Walk.{found, boxes_left}
use Rattle.track_media.specs.declared.kind.MediaFault.TheVariants.{OutOfMemory}
use Rattle.track_media.specs.declared.top.TopPart.TheVariants as part
use Rattle.track_media.specs.Front.{mp4_front}
use Rattle.track_media.specs.Rests.{walk_opened}
use Rattle.track_media.proofs.Mp4Front.{mp4_front_is}
use Rattle.track_media.proofs.ReaderSteps.{part_passed, part_read, part_broken, no_part, refused_on}
use Rattle.track_media.proofs.mp4_reader.Mp4Reader.open.Goals as goal

pub loop-seen-init : goal.loop-seen-init
loop-seen-init c = rw c.new-boxes.ensures (mp4_front_is c.args.file.now)

pub returns-in_err-at : goal.returns-in_err-at
returns-in_err-at c =
    let p = err_from_is_err_and c.from_residual.result c.from_residual.ensures.1 in
    rw (p.1, p.2) (inr (c.loop-seen.invariant ∙ no_part c.args.file.now (boxes_left c.loop-seen.boxes) _ c.in_err-at.ensures.walks))

pub returns-in_err-read : goal.returns-in_err-read
returns-in_err-read c =
    let p = err_from_is_err_and c.from_residual-in_err-read.result c.from_residual-in_err-read.ensures.1 in
    let f = c.in_err-read.field-0.0 in
    let memory = f ≡ OutOfMemory in
    let here = part_broken memory c.args.file.now (found c.in-Some.at) (boxes_left c.loop-seen.boxes) (boxes_left c.next_box.new.self) f (rw c.in-Some.is at c.in_ok-at.ensures.walks) c.in_err-read.ensures in
    rw (p.1, p.2) (refused_on memory (mp4_front c.args.file.now) (walk_opened c.args.file.now (boxes_left c.loop-seen.boxes)) f c.loop-seen.invariant here)

pub returns-in-Movie : goal.returns-in-Movie
returns-in-Movie c =
    let read = part_read c.args.file.now (found c.in-Some.at) (boxes_left c.loop-seen.boxes) (boxes_left c.next_box.new.self) (part.Movie c.in-Movie.movie) (rw c.in-Some.is at c.in_ok-at.ensures.walks) (rw c.in-Movie.is at c.in_ok-read.ensures) in
    rw (c.in_ok-tracks.ensures, c.as_slice.ensures) (c.loop-seen.invariant ∙ read)

pub loop-seen-preserved : goal.loop-seen-preserved
loop-seen-preserved c =
    c.loop-seen.invariant ∙ part_passed c.args.file.now (found c.in-Some.at) (boxes_left c.loop-seen.boxes) (boxes_left c.next_box.new.self) c.in_ok-read.read (rw c.in-Some.is at c.in_ok-at.ensures.walks) c.in_ok-read.ensures c.in_default-read.not-Movie

pub returns : goal.returns
returns c =
    let end = no_part c.args.file.now (boxes_left c.loop-seen.boxes) None (rw c.in_default.is at c.in_ok-at.ensures.walks) in
    rw c.new.ensures (c.loop-seen.invariant ∙ end)

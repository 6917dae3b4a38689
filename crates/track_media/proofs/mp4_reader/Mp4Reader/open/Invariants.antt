use Rattle.std.proofs.Common.{◌≡◌, length}
use Rattle.iso_boxes.specs.Walk.{boxes_left}
use Rattle.track_media.specs.Front.{mp4_front}
use Rattle.track_media.specs.Rests.{walk_opened}
use Rattle.track_media.proofs.mp4_reader.Mp4Reader.open.Given as goal

abbrev pub invariant-loop-seen : goal.invariant-loop-seen
invariant-loop-seen l = mp4_front l.fn.file ≡ walk_opened l.fn.file (boxes_left l.boxes)

abbrev pub decreases-loop-seen : goal.decreases-loop-seen
decreases-loop-seen l = length l.boxes.bytes

use Rattle.std.proofs.Common.{◌≡◌, length}
use Rattle.iso_boxes.specs.Walk.{boxes_left}
use Rattle.track_media.specs.Rests.{walk_coming}
use Rattle.track_media.proofs.mp4_reader.find_fragment.Given as goal

abbrev pub invariant-loop-at : goal.invariant-loop-at
invariant-loop-at l = walk_coming l.fn.file l.fn.movie l.fn.room (boxes_left l.fn.boxes) ≡ walk_coming l.fn.file l.fn.movie l.fn.room (boxes_left l.boxes)

abbrev pub decreases-loop-at : goal.decreases-loop-at
decreases-loop-at l = length l.boxes.bytes

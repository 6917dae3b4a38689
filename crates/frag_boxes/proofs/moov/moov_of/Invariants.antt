use Rattle.std.proofs.Common.{◌≡◌, length}
use Rattle.iso_boxes.specs.Walk.{found, boxes_left}
use Rattle.iso_boxes.proofs.Gathering.{left}
use Rattle.frag_boxes.specs.Moov.{moov_at}
use Rattle.frag_boxes.proofs.MoovLeaving.{moov_reader}
use Rattle.frag_boxes.proofs.moov.moov_of.Given as goal

abbrev pub invariant-loop-parts : goal.invariant-loop-parts
invariant-loop-parts l = left (moov_reader l.at.place) l.parts (boxes_left l.boxes) ≡ moov_at (found l.at)

abbrev pub decreases-loop-parts : goal.decreases-loop-parts
decreases-loop-parts l = length l.boxes.bytes

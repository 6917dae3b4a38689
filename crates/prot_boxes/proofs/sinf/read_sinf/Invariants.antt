use Rattle.std.proofs.Common.{◌≡◌, length}
use Rattle.iso_boxes.specs.Walk.{found, boxes_left}
use Rattle.iso_boxes.proofs.Gathering.{left}
use Rattle.prot_boxes.specs.Sinf.{sinf_at}
use Rattle.prot_boxes.proofs.SinfGathered.{sinf_reader}
use Rattle.prot_boxes.proofs.sinf.read_sinf.Given as goal

abbrev pub invariant-loop-inner : goal.invariant-loop-inner
invariant-loop-inner l = left (sinf_reader l.at.place) l.parts (boxes_left l.boxes) ≡ sinf_at (found l.at)

abbrev pub decreases-loop-inner : goal.decreases-loop-inner
decreases-loop-inner l = length l.boxes.bytes

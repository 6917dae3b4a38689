use Rattle.std.proofs.Common.{◌≡◌, length}
use Rattle.iso_boxes.specs.Walk.{found, boxes_left}
use Rattle.iso_boxes.proofs.Gathering.{left}
use Rattle.frag_boxes.specs.Table.{protected_at}
use Rattle.frag_boxes.proofs.TableLeaving.{sinf_reader}
use Rattle.frag_boxes.proofs.table.protected_of.Given as goal

abbrev pub invariant-loop-parts : goal.invariant-loop-parts
invariant-loop-parts l = left (sinf_reader l.at.place) l.parts (boxes_left l.boxes) ≡ protected_at l.fields (found l.at)

abbrev pub decreases-loop-parts : goal.decreases-loop-parts
decreases-loop-parts l = length l.boxes.bytes

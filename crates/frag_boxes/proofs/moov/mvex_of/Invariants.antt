use Rattle.std.proofs.Common.{◌≡◌, length}
use Rattle.iso_boxes.specs.Walk.{found, boxes_left}
use Rattle.iso_boxes.proofs.Gathering.{left}
use Rattle.frag_boxes.specs.Moov.{mvex_at}
use Rattle.frag_boxes.proofs.MoovLeaving.{mvex_reader}
use Rattle.frag_boxes.proofs.moov.mvex_of.Given as goal

abbrev pub invariant-loop-parts : goal.invariant-loop-parts
invariant-loop-parts l = left mvex_reader l.parts (boxes_left l.boxes) ≡ mvex_at (found l.at)

abbrev pub decreases-loop-parts : goal.decreases-loop-parts
decreases-loop-parts l = length l.boxes.bytes

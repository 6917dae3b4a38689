use Rattle.std.proofs.Common.{◌≡◌, length, false}
use Rattle.iso_boxes.specs.Walk.{boxes_left, walk}
use Rattle.init_data.specs.Pssh.{gathered}
use Rattle.init_data.proofs.PsshLemmas.{left_over}
use Rattle.init_data.proofs.pssh.gathered.Given as goal

abbrev pub invariant-walk : goal.invariant-walk
invariant-walk l = gathered (walk l.bytes 0 false) ≡ left_over l.list (boxes_left l.boxes)

abbrev pub decreases-walk : goal.decreases-walk
decreases-walk l = length l.boxes.bytes

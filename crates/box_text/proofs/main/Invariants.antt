use Rattle.std.proofs.Common.{length}
use Rattle.box_text.proofs.main.Given as goal

abbrev pub decreases-loop-at : goal.decreases-loop-at
decreases-loop-at l = length l.boxes.bytes

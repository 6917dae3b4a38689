use Rattle.iso_boxes.proofs.WrittenAgain.{written_again}
use Rattle.iso_boxes.proofs.laws.written_boxes_are_read.Goals as goal

pub returns : goal.returns
returns c = written_again

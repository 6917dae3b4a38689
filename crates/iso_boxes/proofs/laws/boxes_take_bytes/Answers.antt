use Rattle.iso_boxes.proofs.Places.{few_boxes}
use Rattle.iso_boxes.proofs.laws.boxes_take_bytes.Goals as goal

pub returns : goal.returns
returns c = few_boxes

use Rattle.iso_boxes.proofs.Places.{boxes_lie}
use Rattle.iso_boxes.proofs.laws.boxes_lie_where_they_say.Goals as goal

pub returns : goal.returns
returns c = boxes_lie

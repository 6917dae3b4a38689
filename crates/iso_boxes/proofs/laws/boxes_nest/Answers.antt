use Rattle.iso_boxes.proofs.Places.{lies_nested}
use Rattle.iso_boxes.proofs.laws.boxes_nest.Goals as goal

pub returns : goal.returns
returns c bytes base outer inner around within = lies_nested bytes base outer.body outer.body_place inner around.body within

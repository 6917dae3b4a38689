use Rattle.iso_boxes.proofs.Walking.{steps_of, rests_of, end_of}
use Rattle.iso_boxes.proofs.Places.{next_lies}
use Rattle.iso_boxes.proofs.walk.Boxes.next_box.Goals as goal

pub returns-clause-walks : goal.returns-clause-walks
returns-clause-walks c = steps_of _ _ _ c.advance.ensures.gives c.advance.ensures.moves

pub returns-clause-rests : goal.returns-clause-rests
returns-clause-rests c = rests_of _ _ _ c.advance.ensures.gives c.advance.ensures.moves

pub returns-clause-end : goal.returns-clause-end
returns-clause-end c = end_of _ _ c.advance.ensures.gives

pub returns-clause-lies : goal.returns-clause-lies
returns-clause-lies c = next_lies _ _ c.advance.ensures.gives

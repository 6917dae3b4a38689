use Rattle.std.proofs.Common.{◌≡◌, ◌-◌}
use Rattle.iso_boxes.specs.Walk.{found, boxes_left}
use Rattle.frag_boxes.specs.Table.{entries_in, entries_at}
use Rattle.frag_boxes.proofs.TableLeaving.{with_front}
use Rattle.frag_boxes.proofs.table.entries_of.Given as goal

abbrev pub invariant-loop : goal.invariant-loop
invariant-loop l = with_front l.entries (entries_in l.at.place (l.count - l.counter) (boxes_left l.boxes)) ≡ entries_at l.count (found l.at)

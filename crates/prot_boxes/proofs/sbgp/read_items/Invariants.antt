use Rattle.std.proofs.Common.{◌≡◌, ◌-◌}
use Rattle.iso_boxes.specs.Reading.{repeated}
use Rattle.iso_boxes.proofs.Repeating.{with_front}
use Rattle.prot_boxes.specs.Sbgp.{item}
use Rattle.prot_boxes.proofs.sbgp.read_items.Given as goal

abbrev pub invariant-loop : goal.invariant-loop
invariant-loop l = with_front l.items (repeated (l.count - l.counter) (item) l.rest) ≡ repeated l.count (item) l.bytes

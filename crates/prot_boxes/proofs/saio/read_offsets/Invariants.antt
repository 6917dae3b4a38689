use Rattle.std.proofs.Common.{◌≡◌, ◌-◌}
use Rattle.iso_boxes.specs.Reading.{repeated}
use Rattle.iso_boxes.proofs.Repeating.{with_front}
use Rattle.prot_boxes.specs.Saio.{offset}
use Rattle.prot_boxes.proofs.saio.read_offsets.Given as goal

abbrev pub invariant-loop : goal.invariant-loop
invariant-loop l = with_front l.offsets (repeated (l.count - l.counter) (offset l.version) l.rest) ≡ repeated l.count (offset l.version) l.bytes

use Rattle.std.proofs.Common.{◌≡◌, ◌-◌}
use Rattle.iso_boxes.specs.Reading.{repeated}
use Rattle.iso_boxes.proofs.Repeating.{with_front}
use Rattle.prot_boxes.specs.Sgpd.{entry}
use Rattle.prot_boxes.proofs.sgpd.read_list.Given as goal

abbrev pub invariant-loop : goal.invariant-loop
invariant-loop l = with_front l.seigs (repeated (l.count - l.counter) (entry l.default) l.rest) ≡ repeated l.count (entry l.default) l.bytes

use Rattle.std.proofs.Common.{◌≡◌, ◌-◌}
use Rattle.iso_boxes.specs.Reading.{repeated, some_bytes}
use Rattle.iso_boxes.proofs.Repeating.{with_front}
use Rattle.init_data.specs.declared.fault.InitFault.TheVariants.{Invalid}
use Rattle.init_data.proofs.pssh.some_kids.Given as goal

abbrev pub invariant-loop : goal.invariant-loop
invariant-loop l = with_front l.kids (repeated (l.count - l.counter) (some_bytes Invalid 16) l.rest) ≡ repeated l.count (some_bytes Invalid 16) l.bytes

use Rattle.std.proofs.Common.{◌≡◌, ◌++◌, take}
use Rattle.std.specs.List.{flat_map}
use Rattle.prot_boxes.specs.Saio.{offset_body}
use Rattle.prot_boxes.proofs.saio.put_offsets.Given as goal

abbrev pub invariant-loop-offset : goal.invariant-loop-offset
invariant-loop-offset l = l.body ≡ l.fn.body ++ flat_map offset_body (take l.offset-index l.offsets)

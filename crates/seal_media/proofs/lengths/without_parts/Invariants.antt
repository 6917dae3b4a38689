use Rattle.std.proofs.Common.{◌≡◌, ◌-◌, take}
use Rattle.std.specs.List.{sum_by}
use Rattle.eme_types.specs.Fed.{part_bytes}
use Rattle.seal_media.proofs.lengths.without_parts.Given as goal

abbrev pub invariant-loop-part : goal.invariant-loop-part
invariant-loop-part l = l.left ≡ l.fn.room - sum_by part_bytes (take l.part-index l.parts)

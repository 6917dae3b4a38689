use Rattle.std.proofs.Common.{◌≡◌, ◌-◌, take}
use Rattle.std.specs.List.{sum_by}
use Rattle.seal_media.specs.Lengths.{traf_length}
use Rattle.seal_media.proofs.lengths.without_trafs.Given as goal

abbrev pub invariant-loop-part : goal.invariant-loop-part
invariant-loop-part l = l.left ≡ l.fn.room - sum_by (traf_length l.scheme) (take l.part-index l.parts)

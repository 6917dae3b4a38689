use Rattle.std.proofs.Common.{◌≡◌, ◌-◌, take}
use Rattle.std.specs.List.{sum_by}
use Rattle.seal_media.specs.Lengths.{fragment_length}
use Rattle.seal_media.proofs.lengths.without_fragments.Given as goal

abbrev pub invariant-loop-fragment : goal.invariant-loop-fragment
invariant-loop-fragment l = l.left ≡ l.fn.room - sum_by (fragment_length l.scheme) (take l.fragment-index l.fragments)

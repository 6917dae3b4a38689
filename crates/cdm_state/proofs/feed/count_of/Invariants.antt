use Rattle.std.proofs.Common.{◌≡◌, take}
use Rattle.std.specs.List.{sum_by}
use Rattle.eme_types.specs.Fed.{part_samples}
use Rattle.cdm_state.proofs.feed.count_of.Given as goal

abbrev pub invariant-loop-part : goal.invariant-loop-part
invariant-loop-part l = l.count ≡ sum_by part_samples (take l.part-index l.parts)

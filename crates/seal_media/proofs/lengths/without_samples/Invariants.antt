use Rattle.std.proofs.Common.{◌≡◌, ◌-◌, take}
use Rattle.std.specs.List.{sum_by}
use Rattle.eme_types.specs.Fed.{sample_bytes}
use Rattle.seal_media.proofs.lengths.without_samples.Given as goal

abbrev pub invariant-loop-sample : goal.invariant-loop-sample
invariant-loop-sample l = l.left ≡ l.fn.room - sum_by sample_bytes (take l.sample-index l.samples)

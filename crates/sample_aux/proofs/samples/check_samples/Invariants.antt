use Rattle.std.proofs.Common.{◌≡◌, drop}
use Rattle.sample_aux.specs.InOrder.{each_passes}
use Rattle.sample_aux.specs.Resolve.{sample_passes}
use Rattle.sample_aux.proofs.samples.check_samples.Given as goal

abbrev pub invariant-loop-sample : goal.invariant-loop-sample
invariant-loop-sample l = each_passes (λ x. sample_passes l.senc l.traf x) (drop l.sample-index l.samples) ≡ each_passes (λ x. sample_passes l.senc l.traf x) l.fn.samples

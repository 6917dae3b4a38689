use Rattle.std.proofs.Common.{◌≡◌, drop}
use Rattle.std.specs.List.{list_any}
use Rattle.seal_media.specs.Refusals.{is_protected}
use Rattle.seal_media.proofs.refusals.has_protected.Given as goal

abbrev pub invariant-loop-sample : goal.invariant-loop-sample
invariant-loop-sample l = list_any is_protected (drop l.sample-index l.samples) ≡ list_any is_protected l.fn.samples

use Rattle.std.proofs.Common.{◌≡◌, filter}
use Rattle.eme_types.specs.Fed.{has_samples}
use Rattle.track_media.proofs.gathering.kept.Given as goal

abbrev pub invariant-loop-part : goal.invariant-loop-part
invariant-loop-part l = l.kept ≡ filter has_samples l.yielded

use Rattle.std.proofs.Common.{◌≡◌, drop}
use Rattle.sample_aux.specs.InOrder.{each_passes}
use Rattle.sample_aux.specs.Checked.{protection_passes}
use Rattle.sample_aux.proofs.protection.check_tracks.Given as goal

abbrev pub invariant-loop-track : goal.invariant-loop-track
invariant-loop-track l = each_passes protection_passes (drop l.track-index l.tracks) ≡ each_passes protection_passes l.fn.tracks

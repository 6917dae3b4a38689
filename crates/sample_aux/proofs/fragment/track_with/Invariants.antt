use Rattle.std.proofs.Common.{◌≡◌, drop}
use Rattle.sample_aux.specs.Resolve.{track_with}
use Rattle.sample_aux.proofs.fragment.track_with.Given as goal

abbrev pub invariant-loop-track : goal.invariant-loop-track
invariant-loop-track l = track_with l.id (drop l.track-index l.tracks) ≡ track_with l.id l.fn.tracks

use Rattle.std.proofs.Common.{◌≡◌, map, take}
use Rattle.track_media.specs.Gathering.{empty_part}
use Rattle.track_media.proofs.gathering.empty_parts.Given as goal

abbrev pub invariant-loop-track : goal.invariant-loop-track
invariant-loop-track l = l.parts.items ≡ map empty_part (take l.track-index l.tracks)

use Rattle.std.proofs.Common.{◌≡◌, map, take}
use Rattle.key_claims.specs.TrackValue.{fed_track, all_left}
use Rattle.key_claims.proofs.tracks.all_left_of.Given as goal

abbrev pub invariant-loop-track : goal.invariant-loop-track
invariant-loop-track l = l.all ≡ all_left (map fed_track (take l.track-index l.tracks.items))

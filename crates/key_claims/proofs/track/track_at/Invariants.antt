use Rattle.std.proofs.Common.{◌≡◌, take, map, None}
use Rattle.key_claims.specs.TrackValue.{fed_track}
use Rattle.key_claims.specs.Changes.{find_fed}
use Rattle.key_claims.proofs.track.track_at.Given as goal

abbrev pub invariant-loop-i : goal.invariant-loop-i
invariant-loop-i l = find_fed (take l.i (map fed_track l.tracks)) l.id ≡ None

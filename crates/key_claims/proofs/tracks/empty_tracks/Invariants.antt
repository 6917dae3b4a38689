use Rattle.std.proofs.Common.{◌≡◌, map, take}
use Rattle.key_claims.specs.TrackValue.{fed_track}
use Rattle.key_claims.specs.Changes.{empty_fed}
use Rattle.key_claims.proofs.tracks.empty_tracks.Given as goal

abbrev pub invariant-loop-id : goal.invariant-loop-id
invariant-loop-id l = map fed_track l.tracks.items ≡ map empty_fed (take l.id-index l.ids)

use Rattle.std.proofs.Common.{◌≡◌, ◌++◌, map, take, drop}
use Rattle.key_claims.specs.TrackValue.{resumed_value}
use Rattle.key_claims.proofs.tracks.resume_all.Given as goal

abbrev pub invariant-loop-track : goal.invariant-loop-track
invariant-loop-track g l = l.track-items ≡ map (resumed_value (g.P.Picks.picks l.sessions)) (take l.track-index l.fn.tracks.items) ++ drop l.track-index l.fn.tracks.items

use Rattle.std.proofs.Common.{◌≡◌, map, take}
use Rattle.sample_aux.specs.Checked.{track_protection}
use Rattle.sample_aux.proofs.protection.known_protection.Given as goal

abbrev pub invariant-loop-track : goal.invariant-loop-track
invariant-loop-track l = l.tracks ≡ map (λ track. track_protection l.file track) (take l.track-index l.movie.tracks)

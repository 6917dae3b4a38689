use Rattle.std.proofs.Common.{◌≡◌, ◌++◌, map, take, drop}
use Rattle.serial_play.specs.Answer.{fed_track}
use Rattle.serial_play.proofs.play.feed_tracks.Given as goal

-- the fragment is fed on the tracks so far
abbrev pub invariant-loop-track : goal.invariant-loop-track
invariant-loop-track l = l.tracks ≡ map (fed_track l.fragment) (take l.track-index l.fn.tracks) ++ drop l.track-index l.fn.tracks

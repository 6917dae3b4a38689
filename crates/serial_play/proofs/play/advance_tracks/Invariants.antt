use Rattle.std.proofs.Common.{◌≡◌, ◌++◌, map, take, drop}
use Rattle.key_sessions.specs.Keys.{pick}
use Rattle.serial_play.specs.Answer.{moved_track}
use Rattle.serial_play.proofs.play.advance_tracks.Given as goal

-- the tracks so far have moved
abbrev pub invariant-loop-track : goal.invariant-loop-track
invariant-loop-track l = l.tracks ≡ map (moved_track (pick l.sessions.machine)) (take l.track-index l.fn.tracks) ++ drop l.track-index l.fn.tracks

use Rattle.std.proofs.Common.{◌≡◌, ◌-◌, length}
use Rattle.key_sessions.specs.Keys.{pick}
use Rattle.serial_play.specs.Answer.{moved_track}
use Rattle.serial_play.proofs.track.SerialTrack.advance.Given as goal

-- from here the track moves where it moves from its first count
abbrev pub invariant-moves : goal.invariant-moves
invariant-moves l = moved_track (pick l.sessions.machine) l.self ≡ moved_track (pick l.sessions.machine) l.fn.self

abbrev pub decreases-moves : goal.decreases-moves
decreases-moves l = length l.self.fed - l.self.count

use Rattle.std.proofs.Common.{map, take}
use Rattle.key_sessions.specs.SessionOf.{session_of}
use Rattle.key_sessions.specs.LostPair.{pair_of}
use Rattle.key_sessions.specs.Losses.{LosesInTime}
use Rattle.key_sessions.proofs.losses.lost_in_time.Given as goal

-- the list has what ends of the first sessions
abbrev pub invariant-loop-i : goal.invariant-loop-i
invariant-loop-i l = LosesInTime l.before l.after (map session_of (take l.i l.sessions)) (map pair_of l.list.items)

use Rattle.std.proofs.Common.{◌≡◌, map, drop}
use Rattle.key_sessions.specs.SessionOf.{session_of}
use Rattle.key_sessions.specs.Loops.{first_usable}
use Rattle.key_sessions.proofs.holders.first_usable.Given as goal

-- what is left answers for all
abbrev pub invariant-loop-number : goal.invariant-loop-number
invariant-loop-number l = first_usable l.moment (map session_of l.sessions) (drop l.number-index l.numbers) l.kid ≡ first_usable l.moment (map session_of l.sessions) l.numbers l.kid

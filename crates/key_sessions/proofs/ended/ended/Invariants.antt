use Rattle.std.proofs.Common.{◌≡◌, ◌++◌, drop}
use Rattle.key_sessions.specs.Ended.{ended_keys}
use Rattle.key_sessions.proofs.ended.ended.Given as goal

-- what was found and what is left make all
abbrev pub invariant-loop-known : goal.invariant-loop-known
invariant-loop-known l = l.list.items ++ ended_keys l.number (drop l.known-index l.known-items) l.old.keys l.was_usable l.new.keys l.usable ≡ ended_keys l.number l.known-items l.old.keys l.was_usable l.new.keys l.usable

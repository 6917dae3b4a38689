use Rattle.std.proofs.Common.{◌≡◌, ◌+◌, ◌++◌, map, drop}
use Rattle.key_sessions.specs.SessionOf.{session_of}
use Rattle.key_sessions.specs.Tasks.{reports_from}
use Rattle.key_sessions.proofs.task_plan.plan_tick.Given as goal

-- what is left leads to all
abbrev pub invariant-loop-session : goal.invariant-loop-session
invariant-loop-session l = record {
  number : l.number ≡ l.session-index + 1;
  tasks : l.tasks.items ++ reports_from l.before l.after l.number (map session_of (drop l.session-index l.sessions)) ≡ reports_from l.before l.after 1 (map session_of l.sessions);
}

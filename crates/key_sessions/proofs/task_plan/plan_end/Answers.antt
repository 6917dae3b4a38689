use Rattle.std.proofs.Common.{◌≡◌, Some, rules}
use Rattle.key_sessions.specs.SessionOf.{session_of}
use Rattle.key_sessions.specs.Machine.{session_at, status_at}
use Rattle.key_statuses.specs.Statuses.{statuses}
use Rattle.key_sessions.proofs.Reported.{ended_as}
use Rattle.key_sessions.proofs.task_plan.plan_end.Goals as goal

pub returns-clause-plan : goal.returns-clause-plan
returns-clause-plan c = λ m ss mo.
    let s = session_of c.numbered-session.result.now in
    let l : c.in_ok-list.list ≡ statuses s.keys (status_at c.args.moment s) = search rules in
    let at : session_at m.sessions c.args.number ≡ Some s = rw ss c.numbered-session.ensures in
    ended_as m s c.args.number c.args.moment c.args.reason c.in_ok-list.list c.in_ok-report_tasks.field-0.items c.push-2.new.self at mo l (search rules) (search rules)

use Rattle.std.proofs.Common.{◌≡◌, rules}
use Rattle.key_sessions.specs.SessionOf.{session_of}
use Rattle.key_statuses.specs.Statuses.{statuses}
use Rattle.key_sessions.specs.Machine.{status_at}
use Rattle.key_sessions.proofs.Reported.{reported_as}
use Rattle.key_sessions.proofs.task_plan.plan_report.Goals as goal

pub returns-clause-plan : goal.returns-clause-plan
returns-clause-plan c = λ m at mo.
    let s = session_of c.args.session.now in
    let l : c.in_ok-list.list ≡ statuses s.keys (status_at c.args.moment s) = search rules in
    reported_as m s c.args.number c.args.moment c.in_ok-list.list c.in_ok-report_tasks.field-0.items c.push.new.self at mo l (search rules) (search rules)

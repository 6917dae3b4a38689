use Rattle.std.proofs.Common.{◌≡◌, ◌≤◌, length, rules}
use Rattle.eme_types.specs.declared.limits.TheConstants.{MAX_SESSION_KIDS}
use Rattle.key_sessions.specs.SessionOf.{session_of}
use Rattle.key_statuses.specs.Table.{grant_all}
use Rattle.key_statuses.specs.Statuses.{is_changed, held_status}
use Rattle.key_sessions.specs.Machine.{status_at}
use Rattle.key_sessions.proofs.Planned.{grant_as}
use Rattle.key_sessions.proofs.job_plan.plan_grant.Goals as goal

pub returns : goal.returns
returns c = λ m at mo.
    let s = session_of c.args.session.now in
    let t : c.in_ok-table.table.keys ≡ grant_all s.keys c.args.set.now.keys = search rules in
    let few : length c.in_ok-table.table.keys ≤ MAX_SESSION_KIDS = search rules in
    let ch : c.in_ok-changed.changed ≡ is_changed s.keys (status_at c.args.moment s) c.in_ok-table.table.keys (held_status c.args.set.now.from c.args.set.now.expires c.args.moment) = search rules in
    grant_as m s c.args.number c.args.promise c.args.moment c.args.set.now c.in_ok-table.table c.in_ok-changed.changed at mo t few ch

use Rattle.std.proofs.Common.{◌≤◌, [], map, drop, arith, rules}
use Rattle.key_sessions.specs.LostPair.{pair_of}
use Rattle.key_sessions.specs.Losses.{LosesBy}
use Rattle.key_sessions.specs.Jobs.{after_job}
use Rattle.key_sessions.specs.Kept.{machine_of, state_of}
use Rattle.key_sessions.specs.Plans.{IsJobPlan}
use Rattle.key_sessions.proofs.Planned.{job_state, kept_job, stepped_by, lost_by_change}
use Rattle.key_sessions.proofs.sessions.Sessions.job.Goals as goal

pub invariant_of-self-2 : goal.invariant_of-self-2
invariant_of-self-2 c =
    let m = machine_of c.self.inside in
    let plan = c.in_ok-plan-in-Some.plan in
    let is : IsJobPlan c.in-Some.job.now m.sessions m.moment plan = rw c.deref.ensures.value at c.in_ok-plan-in-Some.ensures in
    let next = job_state m c.in-Some.job.now (drop 1 m.jobs) plan _ c.put.new.self.0 c.in-Some.ensures is c.change_session.ensures.states (rw c.reserve.ensures.items at c.put.ensures.items) in
    let le : c.self.inside.room ≤ c.put.new.self.1 = omega (arith, c.in_ok-wanted.ensures, c.in_ok-reserve.ensures.ok, c.put.ensures.spare) in
    rw c.drop_front.ensures.items (kept_job m _ plan.session plan.change c.self.inside.index c.index_change.new.index c.self.inside.room c.self.inside.tasks.1 c.put.new.self.1 c.self.invariant c.change_session.ensures.states next le (search rules))

pub returns-clause-ok : goal.returns-clause-ok
returns-clause-ok c =
    let m = machine_of c.self.inside in
    let plan = c.in_ok-plan-in-Some.plan in
    let is : IsJobPlan c.in-Some.job.now m.sessions m.moment plan = rw c.deref.ensures.value at c.in_ok-plan-in-Some.ensures in
    let next = job_state m c.in-Some.job.now (drop 1 m.jobs) plan _ c.put.new.self.0 c.in-Some.ensures is c.change_session.ensures.states (rw c.reserve.ensures.items at c.put.ensures.items) in
    let lost : LosesBy plan.session plan.change m.sessions m.moment (map pair_of c.in_ok-lost.lost.items) = rw c.deref-2.ensures.value at c.in_ok-lost.ensures in
    rw (← c.self.view_is, c.drop_front.ensures.items, c.new.ensures) (stepped_by (state_of c.self.inside) (after_job m) _ [] (map pair_of c.in_ok-lost.lost.items) next (lost_by_change m _ plan.session plan.change (map pair_of c.in_ok-lost.lost.items) c.change_session.ensures.states lost))

use Rattle.std.proofs.Common.{◌≡◌, ◌≤◌, ◌+◌, map, drop, length, arith, rules}
use Rattle.key_sessions.specs.LostPair.{pair_of}
use Rattle.key_sessions.specs.Losses.{LosesBy}
use Rattle.key_sessions.specs.Tasks.{after_task}
use Rattle.key_sessions.specs.Kept.{machine_of, state_of}
use Rattle.key_sessions.specs.Plans.{IsTaskPlan}
use Rattle.key_sessions.proofs.Planned.{task_state, may_settle, kept_task, stepped_by, lost_by_change}
use Rattle.key_sessions.proofs.sessions.Sessions.task.Goals as goal

pub settle_promise-requires : goal.settle_promise-requires
settle_promise-requires c =
    let m = machine_of c.self.inside in
    may_settle m c.in-Some.task.now (drop 1 m.tasks) c.in_ok-plan-in-Some.plan.settled c.in-Some.ensures c.in_ok-plan-in-Some.ensures.settles c.self.invariant.owed

pub invariant_of-self-2 : goal.invariant_of-self-2
invariant_of-self-2 c =
    let m = machine_of c.self.inside in
    let plan = c.in_ok-plan-in-Some.plan in
    let is : IsTaskPlan c.in-Some.task.now m.sessions m.moment plan = rw c.deref.ensures.value at c.in_ok-plan-in-Some.ensures.plan in
    let next = task_state m c.in-Some.task.now (drop 1 m.tasks) plan _ c.put_all.new.self.0 _ _ c.in-Some.ensures is c.change_session.ensures.states (rw (c.drop_front.ensures.items, c.reserve-2.ensures.items) at c.put_all.ensures.items) c.settle_promise.ensures (rw c.reserve.ensures.items at c.fire_event.ensures) in
    let wanted : c.in_ok-wanted.wanted ≡ c.self.inside.room + length plan.queued.items = search rules in
    let le : c.self.inside.room ≤ c.put_all.new.self.1 = omega (arith, wanted, c.in_ok-reserve-2.ensures.ok, c.drop_front.ensures.spare, c.put_all.ensures.spare) in
    kept_task m _ plan.session plan.change plan.effects c.self.inside.index c.self.inside.room c.self.inside.tasks.1 c.put_all.new.self.1 c.self.invariant c.change_session.ensures.states next le

pub returns-clause-ok : goal.returns-clause-ok
returns-clause-ok c =
    let m = machine_of c.self.inside in
    let plan = c.in_ok-plan-in-Some.plan in
    let is : IsTaskPlan c.in-Some.task.now m.sessions m.moment plan = rw c.deref.ensures.value at c.in_ok-plan-in-Some.ensures.plan in
    let next = task_state m c.in-Some.task.now (drop 1 m.tasks) plan _ c.put_all.new.self.0 _ _ c.in-Some.ensures is c.change_session.ensures.states (rw (c.drop_front.ensures.items, c.reserve-2.ensures.items) at c.put_all.ensures.items) c.settle_promise.ensures (rw c.reserve.ensures.items at c.fire_event.ensures) in
    let lost : LosesBy plan.session plan.change m.sessions m.moment (map pair_of c.in_ok-lost.lost.items) = rw c.deref-2.ensures.value at c.in_ok-lost.ensures in
    rw (← c.self.view_is) (stepped_by (state_of c.self.inside) (after_task m) _ plan.effects (map pair_of c.in_ok-lost.lost.items) next (lost_by_change m _ plan.session plan.change (map pair_of c.in_ok-lost.lost.items) c.change_session.ensures.states lost))

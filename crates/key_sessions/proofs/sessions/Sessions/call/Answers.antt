use Rattle.std.proofs.Common.{◌+◌, length}
use Rattle.key_sessions.specs.Kept.{machine_of, state_of}
use Rattle.key_sessions.specs.Plans.{IsCallPlan}
use Rattle.key_sessions.proofs.Planned.{call_state, kept_call, stepped_call}
use Rattle.key_sessions.proofs.sessions.Sessions.call.Goals as goal

pub invariant_of-self-2 : goal.invariant_of-self-2
invariant_of-self-2 c =
    let m = machine_of c.self.inside in
    let plan = c.in_ok-plan.plan in
    let is : IsCallPlan c.args.call.now m.sessions (length m.promises + 1) plan = rw (c.deref.ensures.value, c.next-promise.ensures) at c.in_ok-plan.ensures in
    let next = call_state m c.args.call.now plan _ c.give_answer.new.promises c.give_answer.new.jobs.0 c.in_ok-effects.effects is (rw (c.add_session.ensures, c.reserve.ensures.items) at c.change_session.ensures.states) (rw (c.in_ok-make.ensures.ok, c.next-promise.ensures) at c.give_answer.ensures.promises) (rw c.reserve-2.ensures.items at c.give_answer.ensures.jobs) (rw c.next-promise.ensures at c.in_ok-effects.ensures) in
    kept_call m _ c.args.call.now c.in_ok-effects.effects c.self.inside.index c.self.inside.room c.self.inside.tasks.1 c.self.invariant next

pub returns-clause-ok : goal.returns-clause-ok
returns-clause-ok c =
    let m = machine_of c.self.inside in
    let plan = c.in_ok-plan.plan in
    let is : IsCallPlan c.args.call.now m.sessions (length m.promises + 1) plan = rw (c.deref.ensures.value, c.next-promise.ensures) at c.in_ok-plan.ensures in
    let next = call_state m c.args.call.now plan _ c.give_answer.new.promises c.give_answer.new.jobs.0 c.in_ok-effects.effects is (rw (c.add_session.ensures, c.reserve.ensures.items) at c.change_session.ensures.states) (rw (c.in_ok-make.ensures.ok, c.next-promise.ensures) at c.give_answer.ensures.promises) (rw c.reserve-2.ensures.items at c.give_answer.ensures.jobs) (rw c.next-promise.ensures at c.in_ok-effects.ensures) in
    rw (← c.self.view_is, c.new.ensures.items) (stepped_call (state_of c.self.inside) c.args.call.now _ c.in_ok-effects.effects next)

use Rattle.std.proofs.Common.{◌≡◌, ◌≤◌, [], map, Some, arith, rules}
use Rattle.key_sessions.specs.declared.change.Change.TheVariants.{Evicted}
use Rattle.key_sessions.specs.LostPair.{pair_of}
use Rattle.key_sessions.specs.Losses.{LosesBy}
use Rattle.key_sessions.specs.Calls.{find_label}
use Rattle.key_sessions.specs.Evict.{open_number, after_evict}
use Rattle.key_sessions.specs.Kept.{machine_of, state_of}
use Rattle.key_sessions.proofs.Planned.{evict_state, kept_evict, stepped_by, lost_by_change}
use Rattle.key_sessions.proofs.sessions.Sessions.evict.Goals as goal

pub invariant_of-self-2 : goal.invariant_of-self-2
invariant_of-self-2 c =
    let m = machine_of c.self.inside in
    let n = c.in-Some.session in
    let found : open_number (find_label m c.args.label.now) ≡ Some n = search rules in
    let next = evict_state m c.args.label.now n _ c.put.new.self.0 found c.change_session.ensures.states (rw c.reserve.ensures.items at c.put.ensures.items) in
    let le : c.self.inside.room ≤ c.put.new.self.1 = omega (arith, c.in_ok-wanted.ensures, c.in_ok-reserve.ensures.ok, c.put.ensures.spare) in
    kept_evict m _ c.args.label.now n (Some Evicted) c.self.inside.index c.index_change.new.index c.self.inside.room c.self.inside.tasks.1 c.put.new.self.1 c.self.invariant c.change_session.ensures.states next le (search rules)

pub returns-clause-ok : goal.returns-clause-ok
returns-clause-ok c =
    let m = machine_of c.self.inside in
    let n = c.in-Some.session in
    let found : open_number (find_label m c.args.label.now) ≡ Some n = search rules in
    let next = evict_state m c.args.label.now n _ c.put.new.self.0 found c.change_session.ensures.states (rw c.reserve.ensures.items at c.put.ensures.items) in
    let lost : LosesBy n (Some Evicted) m.sessions m.moment (map pair_of c.in_ok-lost.lost.items) = rw c.deref-2.ensures.value at c.in_ok-lost.ensures in
    rw (← c.self.view_is, c.new.ensures) (stepped_by (state_of c.self.inside) (after_evict c.args.label.now m) _ [] (map pair_of c.in_ok-lost.lost.items) next (lost_by_change m _ n (Some Evicted) (map pair_of c.in_ok-lost.lost.items) c.change_session.ensures.states lost))

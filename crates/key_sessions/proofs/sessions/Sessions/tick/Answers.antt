use Rattle.std.proofs.Common.{◌≡◌, ◌≤◌, ◌+◌, ◌++◌, length, arith, rules}
use Rattle.key_sessions.specs.Tasks.{reports_from}
use Rattle.key_sessions.specs.Kept.{machine_of}
use Rattle.key_sessions.proofs.Planned.{kept_tick}
use Rattle.key_sessions.proofs.sessions.Sessions.tick.Goals as goal

pub invariant_of-self-2 : goal.invariant_of-self-2
invariant_of-self-2 c =
    let m = machine_of c.self.inside in
    let us : c.put_all.new.self.0 ≡ m.tasks ++ reports_from m.moment c.args.moment 1 m.sessions = search rules in
    let wanted : c.in_ok-wanted.wanted ≡ c.self.inside.room + length c.in_ok-reports.reports.items = search rules in
    let le : c.self.inside.room ≤ c.put_all.new.self.1 = omega (arith, wanted, c.in_ok-reserve.ensures.ok, c.put_all.ensures.spare) in
    kept_tick m c.args.moment c.put_all.new.self.0 c.self.inside.index c.self.inside.room c.self.inside.tasks.1 c.put_all.new.self.1 c.self.invariant us le

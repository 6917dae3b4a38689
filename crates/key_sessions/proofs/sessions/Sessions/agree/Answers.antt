use Rattle.std.proofs.Common.{◌≡◌}
use Rattle.std.specs.List.{list_all}
use Rattle.key_statuses.specs.Index.{holders_of}
use Rattle.key_sessions.specs.Kept.{machine_of}
use Rattle.key_sessions.specs.Loops.{hold_one_key}
use Rattle.key_sessions.proofs.OneKey.{agree_exact}
use Rattle.key_sessions.proofs.sessions.Sessions.agree.Goals as goal

pub returns-clause-exact : goal.returns-clause-exact
returns-clause-exact c =
    let m = machine_of c.self.inside in
    let told : c.all_hold_one_key.result ≡ list_all (λ kid. hold_one_key m.moment m.sessions (holders_of c.self.inside.index kid) kid) c.ids.result.now = rw c.deref.ensures.value at c.all_hold_one_key.ensures in
    rw (told, ← c.self.view_is) (agree_exact m c.self.inside.index c.ids.result.now c.self.invariant.indexed c.ids.ensures)

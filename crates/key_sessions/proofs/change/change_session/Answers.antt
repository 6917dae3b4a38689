use Rattle.std.proofs.Common.{◌≤◌, ◌-◌, ◌∙◌, length, ap, sym, arith}
use Rattle.key_sessions.specs.declared.session.Session.{Session}
use Rattle.key_sessions.specs.SessionOf.{session_of}
use Rattle.key_sessions.specs.Changes.{changed}
use Rattle.key_sessions.proofs.SessionLists.{change_number, change_past}
use Rattle.key_sessions.proofs.change.change_session.Goals as goal

pub returns-then-at-len-clause-states : goal.returns-then-at-len-clause-states
returns-then-at-len-clause-states c =
    rw c.in-Some.is (change_number c.args.sessions.now.items c.args.number c.index_mut-found.result.now _ (changed c.in-Some.change) c.if-number-eq0.false (c.change_one.ensures ∙ ap (λ (x : Session). changed c.in-Some.change (session_of x)) c.index_mut-found.ensures.value))

pub returns-else-at-len-clause-states : goal.returns-else-at-len-clause-states
returns-else-at-len-clause-states c =
    let le : length c.args.sessions.now.items ≤ c.args.number - 1 = omega arith in
    rw c.in-Some.is (sym (change_past c.args.sessions.now.items c.args.number (changed c.in-Some.change) le))

use Rattle.std.proofs.Common.{◌<◌, ◌-◌, length, arith}
use Rattle.key_sessions.proofs.SessionLists.{at_number}
use Rattle.key_sessions.proofs.session.numbered.Goals as goal

pub returns : goal.returns
returns c =
    let lt : c.args.number - 1 < length c.args.sessions.now = omega (arith, c.requires.0, c.requires.1) in
    at_number c.args.sessions.now c.args.number _ (λ e. omega (arith, e, c.requires.0)) lt c.index-sessions-at.is

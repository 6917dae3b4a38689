use Rattle.key_sessions.proofs.SessionLists.{at_number, past_number}
use Rattle.key_sessions.proofs.session.find_number.Goals as goal

pub returns-then-at-sessions : goal.returns-then-at-sessions
returns-then-at-sessions c = at_number c.args.sessions.now c.args.number _ c.if-number-eq0.false c.if-at-sessions.true c.index-sessions-at.is

pub returns : goal.returns
returns c = past_number c.args.sessions.now c.args.number c.if-at-sessions.false

use Rattle.key_sessions.proofs.Following.{follows_released, on_ok}
use Rattle.key_sessions.proofs.indexed.follow_change.Goals as goal

pub returns-in-Released-clause-ok : goal.returns-in-Released-clause-ok
returns-in-Released-clause-ok c =
    rw c.in-Released.is (on_ok c.follow-in-Released-2.result _ _ (follows_released c.args.number c.args.session.now.keys.keys c.args.index.now c.follow-in-Released-2.new.index) (rw c.new.ensures at c.follow-in-Released-2.ensures.ok))

use Rattle.std.proofs.Common.{◌≡◌, true, rules}
use Rattle.key_statuses.specs.Statuses.{is_usable}
use Rattle.key_sessions.specs.Machine.{status_at}
use Rattle.key_sessions.specs.SessionOf.{session_of}
use Rattle.key_sessions.specs.Keys.{usable_key}
use Rattle.key_sessions.proofs.EndedKeys.{usable_stays}
use Rattle.key_sessions.proofs.LostKeys.{ended_none}
use Rattle.key_sessions.proofs.losses.expired.Goals as goal

pub returns-then-usable_at : goal.returns-then-usable_at
returns-then-usable_at c =
    let s = session_of c.args.session.now in
    let usable : is_usable (status_at c.args.after s) ≡ true = search rules in
    rw c.new.ensures.items (ended_none c.args.number (usable_key c.args.before s) (usable_key c.args.after s) (λ kid key was. usable_stays c.args.before c.args.after s kid key usable was))

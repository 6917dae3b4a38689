use Rattle.std.proofs.Common.{map}
use Rattle.key_sessions.specs.SessionOf.{session_of}
use Rattle.key_sessions.specs.LostPair.{pair_of}
use Rattle.key_sessions.specs.Keys.{held_in}
use Rattle.key_sessions.specs.Changes.{changed}
use Rattle.key_sessions.proofs.Held.{change_missing}
use Rattle.key_sessions.proofs.LostKeys.{lost_none, lost_change}
use Rattle.key_sessions.proofs.losses.lost_by.Goals as goal

pub returns-in-None-find_number : goal.returns-in-None-find_number
returns-in-None-find_number c =
    let ss = map session_of c.args.sessions.now in
    rw (c.in-Some.is, change_missing ss c.args.number (changed c.in-Some.change) c.in-None-find_number.ensures, c.new-in-None-find_number.ensures.items) (lost_none (held_in c.args.moment ss) (held_in c.args.moment ss) (λ n kid key at. at))

pub returns-in_ok-list-in-Some-find_number : goal.returns-in_ok-list-in-Some-find_number
returns-in_ok-list-in-Some-find_number c =
    rw c.in-Some.is (lost_change c.args.moment (map session_of c.args.sessions.now) c.args.number (session_of c.in-Some-find_number.session.now) (changed c.in-Some.change) (map pair_of c.in_ok-list-in-Some-find_number.list.items) c.in-Some-find_number.ensures c.in_ok-list-in-Some-find_number.ensures)

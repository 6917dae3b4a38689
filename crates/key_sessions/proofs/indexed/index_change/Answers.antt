use Rattle.std.proofs.Common.{◌≡◌, None, map, sym}
use Rattle.key_sessions.specs.SessionOf.{session_of}
use Rattle.key_sessions.specs.Machine.{session_at}
use Rattle.key_sessions.specs.Changes.{changed}
use Rattle.key_sessions.specs.Holders.{IsIndexOf}
use Rattle.key_sessions.proofs.Held.{change_missing}
use Rattle.key_sessions.proofs.HeldBy.{follows_start, follows_end, follows_back}
use Rattle.key_sessions.proofs.Following.{on_err}
use Rattle.key_sessions.proofs.indexed.index_change.Goals as goal

pub returns-in_default-find_number-clause-ok : goal.returns-in_default-find_number-clause-ok
returns-in_default-find_number-clause-ok c =
    rw (c.in-Some.is, change_missing (map session_of c.args.sessions.now) c.args.number (changed c.in-Some.change) c.in_default-find_number.ensures) c.requires

pub follow_change-requires : goal.follow_change-requires
follow_change-requires c = follows_start c.args.index.now (map session_of c.args.sessions.now) c.args.number (session_of c.in-Some-find_number.session.now) c.requires c.in-Some-find_number.ensures

pub returns-in_err-follow_change-clause-err : goal.returns-in_err-follow_change-clause-err
returns-in_err-follow_change-clause-err c = on_err _ _ (follows_back c.args.index.now c.follow_change.new.index (map session_of c.args.sessions.now) c.args.number (session_of c.in-Some-find_number.session.now) c.requires c.in-Some-find_number.ensures c.in_err-follow_change.ensures.err)

pub returns-clause-ok : goal.returns-clause-ok
returns-clause-ok c =
    rw c.in-Some.is (follows_end c.args.index.now c.follow_change.new.index (map session_of c.args.sessions.now) c.args.number (session_of c.in-Some-find_number.session.now) (changed c.in-Some.change) c.requires c.in-Some-find_number.ensures c.in_ok-follow_change.ensures.ok)

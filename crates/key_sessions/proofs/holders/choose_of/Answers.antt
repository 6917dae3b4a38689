use Rattle.std.proofs.Common.{◌∙◌, ap, map}
use Rattle.key_statuses.specs.Picked.{picked}
use Rattle.key_sessions.specs.SessionOf.{session_of}
use Rattle.key_sessions.proofs.OneKey.{first_pick}
use Rattle.key_sessions.proofs.holders.choose_of.Goals as goal

pub returns : goal.returns
returns c = (rw c.requires at c.first_usable.ensures) ∙ ap picked (first_pick c.args.moment (map session_of c.args.sessions.now) c.args.kid.now)

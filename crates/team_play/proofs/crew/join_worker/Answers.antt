use Rattle.std.proofs.Common.{arith, ◌-◌, ◌+◌, ◌≡◌}
use Rattle.team_play.proofs.Teams.{team_joined}
use Rattle.team_play.proofs.crew.join_worker.Goals as goal

pub returns-clause-over : goal.returns-clause-over
returns-clause-over c = team_joined _ _ c.args.k (c.args.k - 1) _ _ _ _ _ _ _ _ _ _ (omega (arith, c.requires.one)) c.requires.given c.requires.worked c.requires.of.0.1 c.requires.of.1.1 c.join.ensures.own c.join.ensures.later.0 c.join.ensures.later.1 c.requires.over

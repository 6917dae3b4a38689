use Rattle.std.proofs.Common.{arith, ◌-◌, ◌+◌, ◌≡◌}
use Rattle.shared_cdm.specs.Passes.{own_places}
use Rattle.team_play.proofs.Teams.{first_joined, lanes_joined}
use Rattle.team_play.proofs.lanes.join_lane.Goals as goal

pub returns-clause-first : goal.returns-clause-first
returns-clause-first c = first_joined (own_places c.args.mine.0) (own_places c.args.theirs.0) _ c.join.ensures.own

pub returns-clause-lanes : goal.returns-clause-lanes
returns-clause-lanes c = lanes_joined _ _ c.args.k (c.args.k - 1) _ _ _ _ _ _ _ _ _ (omega (arith, c.requires.other)) c.requires.few c.requires.of.0.1 c.requires.of.1.1 c.join.ensures.later.0 c.join.ensures.later.1 c.join.ensures.own c.both-end.ensures c.requires.lanes c.requires.called

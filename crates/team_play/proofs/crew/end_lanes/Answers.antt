use Rattle.shared_cdm.specs.Passes.{seen, own_places}
use Rattle.team_play.proofs.Teams.{lanes_over}
use Rattle.team_play.proofs.crew.end_lanes.Goals as goal

pub follow-requires-clause-media : goal.follow-requires-clause-media
follow-requires-clause-media g c = (c.args.media.now.value, c.requires.fed, c.requires.tracks, (rw c.in-Ok.is at c.requires.lanes).fed)

pub returns-in-Ok-clause-over : goal.returns-in-Ok-clause-over
returns-in-Ok-clause-over g c = lanes_over _ _ _ _ (own_places c.args.lanes.0) _ (seen c.args.lanes.0) _ _ c.requires.tracks c.follow.ensures.kept.of.1 (rw c.in-Ok.is at c.requires.lanes) c.follow.ensures.followed c.follow.ensures.rest

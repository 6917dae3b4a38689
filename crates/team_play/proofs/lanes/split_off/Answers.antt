use Rattle.team_play.proofs.Teams.{begins_split}
use Rattle.team_play.proofs.lanes.split_off.Goals as goal

pub returns-clause-begins : goal.returns-clause-begins
returns-clause-begins c = begins_split _ _ _ _ _ c.split-theirs.ensures.of.0 c.split-theirs.ensures.kept c.requires.begins

use Rattle.std.proofs.Common.{sym, ◌∙◌}
use Rattle.play_parts.proofs.Crews.{none_own}
use Rattle.team_play.proofs.lanes.lane_with.Goals as goal

pub run_lane-requires-clause-none : goal.run_lane-requires-clause-none
run_lane-requires-clause-none g c = none_own _ _ (rw (sym c.take.ensures.value ∙ c.in-Some.is) at c.requires.given).1

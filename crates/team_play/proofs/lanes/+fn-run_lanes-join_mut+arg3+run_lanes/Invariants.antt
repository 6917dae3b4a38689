use Rattle.std.proofs.Common.{ℕ, ◌*◌, ◌+◌}
use Rattle.team_play.proofs.lanes.+fn-run_lanes-join_mut+arg3+run_lanes.Given as goal

abbrev pub decreases-run_lanes : goal.decreases-run_lanes
decreases-run_lanes g l = 8 * l.k

abbrev pub decreases-join_mut+arg3 : goal.decreases-join_mut+arg3
decreases-join_mut+arg3 g l = 8 * l.below + 1

use Rattle.std.proofs.Common.{ℕ, ◌*◌, ◌+◌}
use Rattle.team_play.proofs.crew.+fn-run_crew-join_mut+arg3+run_crew.Given as goal

abbrev pub decreases-run_crew : goal.decreases-run_crew
decreases-run_crew g l = 8 * l.k

abbrev pub decreases-join_mut+arg3 : goal.decreases-join_mut+arg3
decreases-join_mut+arg3 g l = 8 * l.below + 1

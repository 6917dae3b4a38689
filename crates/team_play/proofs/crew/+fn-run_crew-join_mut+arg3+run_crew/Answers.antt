use Rattle.team_play.proofs.crew.+fn-run_crew-join_mut+arg3+run_crew.Goals as goal

pub returns-then-k-eq0-clause-over : goal.returns-then-k-eq0-clause-over
returns-then-k-eq0-clause-over g t c = rw c.if-k-eq0.true c.play_lanes.ensures.over

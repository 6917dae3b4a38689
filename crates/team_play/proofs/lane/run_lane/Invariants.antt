use Rattle.team_play.proofs.Runs.{Calls}
use Rattle.team_play.proofs.lane.run_lane.Given as goal

-- the lines so far
abbrev pub invariant-loop-line : goal.invariant-loop-line
invariant-loop-line g l = Calls l.shared l.script l.lane l.line-index l.fn.pass l.pass

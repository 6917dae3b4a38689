use Rattle.team_play.proofs.Runs.{Leads}
use Rattle.team_play.proofs.lead.lead.Given as goal

-- the lines so far
abbrev pub invariant-loop-line : goal.invariant-loop-line
invariant-loop-line g l = Leads l.shared l.script l.line-index l.fn.left.items l.left.items l.fn.pass l.pass

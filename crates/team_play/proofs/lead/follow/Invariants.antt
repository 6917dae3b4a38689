use Rattle.std.proofs.Common.{length}
use Rattle.team_play.proofs.Runs.{Follows}
use Rattle.team_play.proofs.lead.follow.Given as goal

-- what follows the last line, up to the next fragment
abbrev pub invariant-rest : goal.invariant-rest
invariant-rest g l = Follows l.shared l.fn.left.items l.left.items l.fn.pass l.pass

abbrev pub decreases-rest : goal.decreases-rest
decreases-rest g l = length l.left.items

use Rattle.shared_cdm.specs.Passes.{seen, own}
use Rattle.team_play.specs.Adds.{Stays, Steps}
use Rattle.team_play.proofs.steps.settle_all.Given as goal

-- the steps so far
abbrev pub invariant-loop : goal.invariant-loop
invariant-loop g l = Stays l.shared l.fn.pass l.pass × Steps (seen l.fn.pass) (own l.fn.pass) (seen l.pass) (own l.pass)

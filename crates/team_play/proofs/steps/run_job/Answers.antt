use Rattle.team_play.proofs.Added.{on_ok, by_job}
use Rattle.team_play.proofs.steps.run_job.Goals as goal

pub returns-clause-steps : goal.returns-clause-steps
returns-clause-steps g c = on_ok _ (by_job _ _ _ _ _ _ c.job-pass.ensures.shared)

use Rattle.team_play.proofs.Added.{on_ok, by_task}
use Rattle.team_play.proofs.steps.run_task.Goals as goal

pub returns-clause-steps : goal.returns-clause-steps
returns-clause-steps g c = on_ok _ (by_task _ _ _ _ _ _ c.task-pass.ensures.shared)

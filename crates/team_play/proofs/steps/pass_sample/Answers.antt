use Rattle.team_play.proofs.Added.{took_both_if}
use Rattle.team_play.proofs.steps.pass_sample.Goals as goal

pub returns-then-over-clause-steps : goal.returns-then-over-clause-steps
returns-then-over-clause-steps g c = took_both_if _ _ _ _ _ _ _ c.let_out-pass.ensures.steps c.claim_or_wait.ensures.steps

use Rattle.team_play.proofs.Added.{took_both, by_wait}
use Rattle.team_play.proofs.steps.claim_or_wait.Goals as goal

pub returns-after-is_err-clause-steps : goal.returns-after-is_err-clause-steps
returns-after-is_err-clause-steps g c = took_both _ _ _ _ _ _ (rw c.in-Ok-false.is at c.claim_one-pass.ensures.steps) (by_wait _ _ _ _ _ _ c.wait_for_key-pass.ensures.shared)

use Rattle.cdm_state.specs.Does.{PublishDoes, PassClearDoes}
use Rattle.decrypt_workers.proofs.Works.{prefix_trans}
use Rattle.shared_cdm.proofs.Held.{later_of}
use Rattle.team_play.proofs.Added.{took_both, by_publish, by_pass_clear}
use Rattle.team_play.proofs.steps.let_out.Goals as goal

pub returns-then-out-clause-steps : goal.returns-then-out-clause-steps
returns-then-out-clause-steps g c = by_publish _ _ _ _ _ _ c.publish-pass.ensures.shared

pub returns-clause-later : goal.returns-clause-later
returns-clause-later g c = prefix_trans _ _ _ (later_of PublishDoes _ _ _ _ _ _ c.publish-pass.ensures.shared) (later_of PassClearDoes _ _ _ _ _ _ c.pass_clear-pass.ensures.shared)

pub returns-clause-steps : goal.returns-clause-steps
returns-clause-steps g c = took_both _ _ _ _ _ _ (by_publish _ _ _ _ _ _ c.publish-pass.ensures.shared) (by_pass_clear _ _ _ _ _ _ c.pass_clear-pass.ensures.shared)

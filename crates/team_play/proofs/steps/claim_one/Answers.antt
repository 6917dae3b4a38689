use Rattle.decrypt_workers.proofs.Works.{prefix_trans}
use Rattle.cdm_state.specs.Does.{ClaimDoes, DeliverDoes}
use Rattle.shared_cdm.proofs.Held.{claim_given, later_of}
use Rattle.team_play.proofs.Added.{by_claim}
use Rattle.team_play.proofs.steps.claim_one.Goals as goal

pub deliver-pass-requires-clause-unended : goal.deliver-pass-requires-clause-unended
deliver-pass-requires-clause-unended g c = let given = claim_given 0 c.args.shared.now c.args.pass _ c.in-Ok.claim c.claim-pass.ensures.kept (rw c.in-Ok.is at c.claim-pass.ensures.shared) in given.1.unended

pub returns-in-Ok-open_sample-clause-later : goal.returns-in-Ok-open_sample-clause-later
returns-in-Ok-open_sample-clause-later g c = prefix_trans _ _ _ (later_of (ClaimDoes 0) _ _ _ _ _ _ c.claim-pass.ensures.shared) (later_of (DeliverDoes c.in-Ok.claim.place c.in-Ok-open_sample.clear) _ _ _ _ _ _ c.deliver-pass.ensures.shared)

pub returns-in-Ok-open_sample-clause-steps : goal.returns-in-Ok-open_sample-clause-steps
returns-in-Ok-open_sample-clause-steps g c =
    let given = claim_given 0 c.args.shared.now c.args.pass _ c.in-Ok.claim c.claim-pass.ensures.kept (rw c.in-Ok.is at c.claim-pass.ensures.shared) in
    by_claim c.in-Ok.claim c.in-Ok-open_sample.clear _ _ _ _ _ _ _ _ given.0 given.1.worker_ given.1.place c.deliver-pass.ensures.shared

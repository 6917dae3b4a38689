use Rattle.cdm_state.proofs.StillOpen.{claim_open}
use Rattle.cdm_state.proofs.tests.is_out_of_work.Goals as goal

pub returns : goal.returns
returns c = claim_open c.claim.result c.args.cdm.now c.claim.new.self 1 c.claim.ensures.ok c.claim.ensures.err

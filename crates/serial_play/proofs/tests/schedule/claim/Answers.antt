use Rattle.cdm_state.proofs.StillOpen.{claim_open}
use Rattle.serial_play.proofs.tests.schedule.claim.Goals as goal

pub returns-clause-open_ : goal.returns-clause-open_
returns-clause-open_ c = claim_open c.claim.result c.args.cdm.now c.claim.new.self 1 c.claim.ensures.ok c.claim.ensures.err

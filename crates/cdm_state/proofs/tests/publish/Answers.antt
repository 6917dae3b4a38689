use Rattle.cdm_state.proofs.StillOpen.{published_open}
use Rattle.cdm_state.proofs.tests.publish.Goals as goal

pub returns : goal.returns
returns c = published_open c.publish.result c.args.cdm.now c.publish.new.self c.publish.ensures.ok c.publish.ensures.err

use Rattle.cdm_state.proofs.StillOpen.{waited_open}
use Rattle.cdm_state.proofs.tests.wait.Goals as goal

pub returns : goal.returns
returns c = waited_open c.wait_for_key.result c.args.cdm.now c.wait_for_key.new.self c.wait_for_key.ensures.ok c.wait_for_key.ensures.err

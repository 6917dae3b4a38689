use Rattle.cdm_state.proofs.StillOpen.{passed_open}
use Rattle.cdm_state.proofs.tests.pass.Goals as goal

pub returns : goal.returns
returns c = passed_open c.pass_clear.result c.args.cdm.now c.pass_clear.new.self c.pass_clear.ensures.ok c.pass_clear.ensures.err

use Rattle.cdm_state.proofs.StillOpen.{waited_open}
use Rattle.serial_play.proofs.tests.schedule.wait.Goals as goal

pub returns-clause-open_ : goal.returns-clause-open_
returns-clause-open_ c = waited_open c.wait_for_key.result c.args.cdm.now c.wait_for_key.new.self c.wait_for_key.ensures.ok c.wait_for_key.ensures.err

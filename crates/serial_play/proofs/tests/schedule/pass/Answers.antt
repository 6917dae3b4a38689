use Rattle.cdm_state.proofs.StillOpen.{passed_open}
use Rattle.serial_play.proofs.tests.schedule.pass.Goals as goal

pub returns-clause-open_ : goal.returns-clause-open_
returns-clause-open_ c = passed_open c.pass_clear.result c.args.cdm.now c.pass_clear.new.self c.pass_clear.ensures.ok c.pass_clear.ensures.err

use Rattle.cdm_state.proofs.StillOpen.{published_open}
use Rattle.serial_play.proofs.tests.schedule.publish.Goals as goal

pub returns-clause-open_ : goal.returns-clause-open_
returns-clause-open_ c = published_open c.publish.result c.args.cdm.now c.publish.new.self c.publish.ensures.ok c.publish.ensures.err

use Rattle.cdm_state.proofs.StillOpen.{delivered_open}
use Rattle.serial_play.proofs.tests.schedule.is_taken.Goals as goal

pub returns-clause-open_ : goal.returns-clause-open_
returns-clause-open_ c = λ held other o. delivered_open c.args.cdm.now c.deliver.new.self c.args.claim.place c.in_ok-clear.clear c.deliver.result c.deliver.ensures held other o

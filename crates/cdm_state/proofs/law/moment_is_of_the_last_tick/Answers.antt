use Rattle.cdm_state.proofs.Moment.{moment_is}
use Rattle.cdm_state.proofs.law.moment_is_of_the_last_tick.Goals as goal

pub returns : goal.returns
returns c = moment_is

use Rattle.cdm_state.proofs.PastTicks.{moment_is_past}
use Rattle.cdm_state.proofs.law.moment_is_past_each_tick.Goals as goal

pub returns : goal.returns
returns c = moment_is_past

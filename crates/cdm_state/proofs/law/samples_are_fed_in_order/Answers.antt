use Rattle.cdm_state.proofs.OfSamples.{fed_in_order}
use Rattle.cdm_state.proofs.law.samples_are_fed_in_order.Goals as goal

pub returns : goal.returns
returns c = fed_in_order

use Rattle.cdm_state.proofs.OfSamples.{live_of_sample}
use Rattle.cdm_state.proofs.law.live_claims_are_of_their_samples.Goals as goal

pub returns : goal.returns
returns c = live_of_sample

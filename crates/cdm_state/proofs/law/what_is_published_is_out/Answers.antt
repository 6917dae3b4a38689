use Rattle.cdm_state.proofs.OfSamples.{published_out}
use Rattle.cdm_state.proofs.OutOn.{out_goes_on}
use Rattle.cdm_state.proofs.law.what_is_published_is_out.Goals as goal

pub returns-clause-count : goal.returns-clause-count
returns-clause-count c = published_out

pub returns-clause-goes_on : goal.returns-clause-goes_on
returns-clause-goes_on c = out_goes_on

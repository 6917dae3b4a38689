use Rattle.cdm_state.proofs.Quiet.{rest_is_quiet, rest_stays}
use Rattle.cdm_state.proofs.law.what_is_at_rest_has_nothing_to_do.Goals as goal

pub returns-clause-quiet : goal.returns-clause-quiet
returns-clause-quiet c = rest_is_quiet

pub returns-clause-stays : goal.returns-clause-stays
returns-clause-stays c = rest_stays

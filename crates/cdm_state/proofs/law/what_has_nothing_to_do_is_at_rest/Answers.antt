use Rattle.cdm_state.proofs.Progress.{comes_to_rest}
use Rattle.cdm_state.proofs.law.what_has_nothing_to_do_is_at_rest.Goals as goal

pub returns : goal.returns
returns c = comes_to_rest
